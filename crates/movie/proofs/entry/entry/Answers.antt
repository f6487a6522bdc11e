use Rattle.movie.proofs.Asking.{spot_in_lem, spot_small, spot_past}
use Rattle.movie.proofs.Naming.{named_in}
use native.Mathlib.Omega.{arith}
use Rattle.movie.proofs.entry.entry.Goals as goal

pub entry_of-requires : goal.entry_of-requires
entry_of-requires c = let s = spot_in_lem _ c.payload.ensures _ _ _ _ c.find_spot.ensures.0 c.in-Some.is in (omega arith, omega (arith, spot_small _ s))

pub returns-in-Some : goal.returns-in-Some
returns-in-Some c = named_in _ (λ i. (c.type_inv.file i).fits) (spot_in_lem _ c.payload.ensures _ _ _ _ c.find_spot.ensures.0 c.in-Some.is) _ c.entry_of.ensures

pub returns-in-None : goal.returns-in-None
returns-in-None c = spot_past _ c.payload.ensures _ _ c.find_spot.ensures.0 c.in-None.is
