-- The spot that is found in `moov` is a place, and there is none past the last entry.
use mathlib.Core.Path.{sym, ◌∙◌}
use Rattle.edit_replace.proofs.Finding.{spot_within, found_as, found_past}
use Rattle.edit_replace.proofs.place.find.Goals as goal

pub in_moov-requires : goal.in_moov-requires
in_moov-requires c = let i = spot_within _ _ _ _ _ c.find_spot.ensures.0 c.in_ok-s.was in (i.some, i.few)

pub returns : goal.returns
returns c = let a = c.args in let e = c.in_ok-s.was in let f = c.find_spot.ensures in found_as a.moov.now a.i _ _ (spot_within _ _ _ _ _ f.0 e) (λ q. sym e ∙ f.1 q) _ c.in_moov.ensures

pub returns-in_err-s : goal.returns-in_err-s
returns-in_err-s c = let a = c.args in rw c.from_residual.ensures (found_past a.moov.now a.i _ c.find_spot.ensures.0 c.in_err-s.was)
