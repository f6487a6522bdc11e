-- The call, and its answer as one number.
use Rattle.threegp.proofs.Packing.{for_c}
use Rattle.threegp.proofs.threegp_outline.Goals as goal

pub returns : goal.returns
returns c = for_c c.pack.ensures c.outline.ensures
