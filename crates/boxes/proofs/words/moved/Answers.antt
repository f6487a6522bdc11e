use Rattle.boxes.proofs.Wording.{moved_low, moved_high}
use native.Mathlib.Omega.{arith}
use Rattle.boxes.proofs.words.moved.Goals as goal

pub returns-then-o-by : goal.returns-then-o-by
returns-then-o-by c = moved_low _ _ (omega arith) (omega arith)

pub returns-then-up-by : goal.returns-then-up-by
returns-then-up-by c = moved_high _ _ (omega arith) (omega arith)

pub returns : goal.returns
returns c = moved_high _ _ (omega arith) (omega arith)
