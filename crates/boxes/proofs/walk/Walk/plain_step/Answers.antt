-- A header that says a size of eight bytes or more, and so a plain one.
use native.Mathlib.Omega.{arith}
use mathlib.Core.Path.{ap}
use Rattle.boxes.specs.Walk.{plainly}
use Rattle.boxes.proofs.Walking.{step_end, step_rest}
use Rattle.boxes.proofs.PlainWalking.{plain_short, plain_not, plain_found}
use Rattle.boxes.proofs.walk.Walk.plain_step.Goals as goal

pub returns-then-n-at : goal.returns-then-n-at
returns-then-n-at c = ap (plainly _) (step_end _ _ (omega arith))

pub returns-then-left-lt-HEAD : goal.returns-then-left-lt-HEAD
returns-then-left-lt-HEAD c = ap (plainly _) (step_rest _ _ (omega arith) (omega arith))

pub returns-then-span-lt-HEAD : goal.returns-then-span-lt-HEAD
returns-then-span-lt-HEAD c = plain_short _ _ c.word32_in-span.ensures.0 (omega arith) (omega arith)

pub returns-then-left-span : goal.returns-then-left-span
returns-then-left-span c = plain_not _ _ c.word32_in-span.ensures.0 (omega arith) (omega arith) (omega arith)

pub returns : goal.returns
returns c = rw c.word32_in.ensures.0 (plain_found _ _ c.word32_in-span.ensures.0 (omega arith) (omega arith))
