-- Nothing, or two numbers where there is room for them.
use native.Mathlib.Omega.{arith}
use Rattle.modes.proofs.Failings.{none_fails, fails_short, fails_told}
use Rattle.modes.proofs.put.Goals as goal

pub returns-in_default : goal.returns-in_default
returns-in_default c = rw c.in_default.is (none_fails _)

pub returns-then-out-lt2 : goal.returns-then-out-lt2
returns-then-out-lt2 c = rw c.in-Some.is (fails_short _ _ (omega arith))

pub returns : goal.returns
returns c = rw c.in-Some.is (fails_told _ _ (omega arith) c.from.ensures)
