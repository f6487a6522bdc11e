-- The release by its number, and then the call.
use Rattle.threegp.proofs.Packing.{for_c}
use Rattle.threegp.proofs.threegp_record_write.Goals as goal

pub returns : goal.returns
returns c = for_c c.pack.ensures (rw c.from.ensures at c.write.ensures)
