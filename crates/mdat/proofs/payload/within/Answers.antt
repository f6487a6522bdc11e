-- The middle test keeps the difference from wrapping.
use Rattle.std.proofs.Common.{arith}
use Rattle.std.proofs.lemmas.Grind.{common_steps}
use Rattle.wire.specs.Clauses.{is_le, every}
use Rattle.mdat.proofs.payload.within.Goals as goal

pub returns-then-offset-p : goal.returns-then-offset-p
unfolding every is_le
returns-then-offset-p c = grind (arith, common_steps)

pub returns-else-offset-p : goal.returns-else-offset-p
unfolding every is_le
returns-else-offset-p c = grind (arith, common_steps)
