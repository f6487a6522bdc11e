-- The box that a target means, one of another code, one in another container.
use Rattle.boxes.proofs.Wording.{leaf_hit, leaf_code, leaf_kind}
use native.Mathlib.Omega.{arith}
use Rattle.boxes.proofs.words.reword_leaf.Goals as goal

pub returns-then-code-t : goal.returns-then-code-t
returns-then-code-t c = leaf_hit _ _ _ _ _ (omega arith) (omega arith) c.reword.ensures

pub returns-else-code-t : goal.returns-else-code-t
returns-else-code-t c = leaf_code _ _ _ _ _ (omega arith) (omega arith)

pub returns-else-k-t : goal.returns-else-k-t
returns-else-k-t c = leaf_kind _ _ _ _ _ (omega arith)
