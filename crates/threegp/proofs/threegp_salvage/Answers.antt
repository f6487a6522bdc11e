-- The codec by its number, and then the call.
use Rattle.threegp.proofs.Packing.{reports_for_c}
use Rattle.threegp.proofs.threegp_salvage.Goals as goal

pub returns : goal.returns
returns c =
    reports_for_c c.pack.ensures (rw c.from.ensures at c.salvage.ensures)
