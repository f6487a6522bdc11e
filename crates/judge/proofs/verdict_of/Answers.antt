-- The rules of containers alone by their traversal, the others by theirs.
use Rattle.judge.proofs.Shapes.{by_shape, by_boxes}
use native.Mathlib.Omega.{arith}
use Rattle.judge.proofs.verdict_of.Goals as goal

pub returns-then-n-lt4 : goal.returns-then-n-lt4
returns-then-n-lt4 c = by_shape _ _ (omega arith) c.first.ensures

pub returns : goal.returns
returns c = by_boxes _ _ (omega arith) c.judge_in.ensures
