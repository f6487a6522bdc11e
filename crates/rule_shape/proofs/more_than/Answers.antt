-- The box of number n is there, or there are at most n.
use Rattle.rule_shape.proofs.Shape.{more_is}
use mathlib.Core.Path.{◌∙◌}
use Rattle.rule_shape.proofs.more_than.Goals as goal

pub returns : goal.returns
returns c = c.is_some.ensures ∙ more_is _ _ _ _ c.nth.ensures
