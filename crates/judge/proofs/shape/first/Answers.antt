-- The number that the traversal found, as a verdict.
use Rattle.judge.proofs.Numbers.{number_fine, number_bad}
use Rattle.judge.proofs.shape.first.Goals as goal

pub returns-then-found-eq0 : goal.returns-then-found-eq0
returns-then-found-eq0 c = number_fine _ c.first_in-found.ensures c.if-found-eq0.true

pub returns : goal.returns
returns c = number_bad _ c.first_in-found.ensures c.if-found-eq0.false
