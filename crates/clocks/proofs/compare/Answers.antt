use native.Mathlib.Omega.{arith}
use Rattle.clocks.proofs.Whole.{earlier, same, later}
use Rattle.clocks.specs.Zones.{compared}
use Rattle.clocks.proofs.compare.Goals as goal

pub returns-then-a-b : goal.returns-then-a-b
unfolding compared
returns-then-a-b c = earlier _ _ (omega arith)

pub returns-then-a-b-2 : goal.returns-then-a-b-2
unfolding compared
returns-then-a-b-2 c = same _ _ (omega arith)

pub returns : goal.returns
unfolding compared
returns c = later _ _ (omega arith)
