-- The invariant: the codes before the i-th have n boxes each.
use Rattle.boxes.specs.Boxes.{boxes}
use Rattle.rule_shape.proofs.Shape.{Asked}
use Rattle.rule_shape.proofs.exactly.Given as goal

abbrev pub invariant-loop-code : goal.invariant-loop-code
invariant-loop-code l = Asked l.n l.list (boxes l.part) l.code-index
