-- The box of number 1, or none.
use Rattle.brands.proofs.Holding.{second_is, second_none}
use Rattle.boxes.proofs.Cutting.{cut_as, none_as}
use Rattle.brands.proofs.conditions.second.Goals as goal

pub returns-in-Some : goal.returns-in-Some
returns-in-Some c = let s = cut_as _ _ _ _ c.nth.ensures _ c.in-Some.is in second_is _ s.p _ s.q s.list s.nth

pub returns-in-None : goal.returns-in-None
returns-in-None c = second_none _ (none_as _ _ _ _ c.nth.ensures c.in-None.is)
