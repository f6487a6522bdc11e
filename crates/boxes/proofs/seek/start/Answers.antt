use Rattle.boxes.proofs.Placing.{start_at, start_none}
use native.Mathlib.Omega.{arith}
use Rattle.boxes.proofs.Cutting.{cut_as, none_as}
use Rattle.boxes.proofs.seek.start.Goals as goal

pub overflow_add-result : goal.overflow_add-result
overflow_add-result c = let s = cut_as _ _ _ _ c.nth.ensures _ c.in-Some.is in let h = s.inside in let l = s.least in omega arith

pub returns-in-Some : goal.returns-in-Some
returns-in-Some c = start_at _ _ _ (λ i. (c.type_inv.part i).fits) (cut_as _ _ _ _ c.nth.ensures _ c.in-Some.is)

pub returns-in-None : goal.returns-in-None
returns-in-None c = start_none _ _ _ (λ i. (c.type_inv.part i).fits) (none_as _ _ _ _ c.nth.ensures c.in-None.is) c.past.ensures
