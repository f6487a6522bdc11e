use mathlib.Core.Path.{◌∙◌}
use Rattle.boxes.proofs.Numbered.{nth_none}
use Rattle.boxes.proofs.Cutting.{cut_as, none_as, cut_payload}
use Rattle.boxes.proofs.seek.payload.Goals as goal

pub body-requires : goal.body-requires
body-requires c = let s = cut_as _ _ _ _ c.nth.ensures _ c.in-Some.is in (s.least, s.inside)

pub returns-in-Some : goal.returns-in-Some
returns-in-Some c = c.body.ensures ∙ cut_payload _ _ _ _ (cut_as _ _ _ _ c.nth.ensures _ c.in-Some.is)

pub returns-in-None : goal.returns-in-None
returns-in-None c = nth_none _ _ _ (none_as _ _ _ _ c.nth.ensures c.in-None.is)
