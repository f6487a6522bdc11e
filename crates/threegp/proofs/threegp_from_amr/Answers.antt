-- The answer of `from_amr`, packed for C.
use Rattle.threegp.proofs.Packing.{for_c}
use Rattle.threegp.proofs.threegp_from_amr.Goals as goal

pub returns : goal.returns
returns c = for_c c.pack.ensures c.from_amr.ensures
