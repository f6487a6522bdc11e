use Rattle.boxes.proofs.Placing.{place_at, place_none}
use Rattle.boxes.proofs.Cutting.{cut_as, none_as}
use Rattle.boxes.proofs.seek.place.Goals as goal

pub returns-in-Some : goal.returns-in-Some
returns-in-Some c = place_at _ _ _ (λ i. (c.type_inv.part i).fits) (cut_as _ _ _ _ c.nth.ensures _ c.in-Some.is)

pub returns-in-None : goal.returns-in-None
returns-in-None c = place_none _ _ _ (λ i. (c.type_inv.part i).fits) (none_as _ _ _ _ c.nth.ensures c.in-None.is) c.past.ensures
