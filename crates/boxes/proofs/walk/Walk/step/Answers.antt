-- By what the header says.
use native.Mathlib.Omega.{arith}
use Rattle.boxes.proofs.Walking.{step_end, step_rest, step_small, step_large, step_box}
use Rattle.boxes.proofs.walk.Walk.step.Goals as goal

pub returns-then-n-at : goal.returns-then-n-at
returns-then-n-at c = step_end _ _ (omega arith)

pub returns-then-left-lt-HEAD : goal.returns-then-left-lt-HEAD
returns-then-left-lt-HEAD c = step_rest _ _ (omega arith) (omega arith)

pub returns-then-s : goal.returns-then-s
returns-then-s c = step_small _ _ c.said-s.ensures (omega arith) (omega arith)

pub returns-then-left-s : goal.returns-then-left-s
returns-then-left-s c = step_large _ _ c.said-s.ensures (omega arith) (omega arith)

pub returns : goal.returns
returns c = step_box _ _ c.said-s.ensures c.word32_in.ensures.0 (omega arith) (omega arith)
