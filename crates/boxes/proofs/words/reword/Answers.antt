use Rattle.boxes.proofs.Wording.{reword_put, reword_past}
use native.Mathlib.Omega.{arith}
use Rattle.boxes.proofs.words.reword.Goals as goal

pub returns-then-from-body : goal.returns-then-from-body
returns-then-from-body c = reword_put _ _ _ _ (omega arith) (omega arith) c.reword_all.ensures

pub returns-else-from-body : goal.returns-else-from-body
returns-else-from-body c = reword_past _ _ _ _ (omega arith)
