-- An open box stays the last where `moov` comes second. Assumes nothing.
use Prim.Native.Nat.{ℕ}
use mathlib.Core.Path.{◌≡◌, refl, ap}
use mathlib.Core.Bool.{Bool, true, false}
use mathlib.Core.List.{List, ◌∷◌, ◌++◌}
use lib.Dec.{eqb}
use borrow.Author.Tests.{eqb-true}
use Rattle.wire.specs.Tests.{pick, if_eq}
use Rattle.codes.specs.Codes.{MOOV}
use Rattle.wire.proofs.Tests.{eq_any}
use Rattle.boxes.specs.declared.walk.Form.TheVariants.{Open}
use Rattle.boxes.specs.Box.{Box}
use Rattle.boxes.proofs.Reading.{All, Shut}
use Rattle.boxes.proofs.Reading.All.{none, some}
use Rattle.boxes.proofs.Reading.Shut.{end, next}
use Rattle.edit_offsets.proofs.Closing.{ShutMoov}
use Rattle.edit_move.specs.Moving.{just, others, moov_second}

-- no box is open
abbrev Stops : Box → Type 0
Stops x = x.form ≡ Open → ⊥

moov_stops : {l : List Box} → All ShutMoov l → All Stops (just MOOV l)
unfolding just if_eq
moov_stops none = none
moov_stops (some {x = y} {l = l} h a) = go (eqb y.code MOOV) refl (moov_stops a)
  where
    go : (t : Bool) → eqb y.code MOOV ≡ t → All Stops (just MOOV l) → All Stops (pick t (y ∷ just MOOV l) (just MOOV l))
    go true e ih = some (λ o. h o (eqb-true _ _ e)) ih
    go false e ih = ih

shut_others : {r : List ℕ} (c : ℕ) {l : List Box} → Shut r l → Shut r (others c l)
unfolding others
shut_others c end = end
shut_others {r} c (next o z) = let i = shut_others c z in eq_any (Shut r) _ _ _ _ i (next (λ e. (ap (others c) (o e).0, (o e).1)) i)

shut_after : {r : List ℕ} {p q : List Box} → All Stops p → Shut r q → Shut r (p ++ q)
shut_after none z = z
shut_after (some h a) z = next (λ e. absurd (h e)) (shut_after a z)

pub shut_second : {r : List ℕ} {l : List Box} → All ShutMoov l → Shut r l → Shut r (moov_second l)
unfolding moov_second just others
shut_second none end = end
shut_second (some h a) (next o z) =
    next (λ e. (ap (λ (m : List Box). just MOOV m ++ others MOOV m) (o e).0, (o e).1)) (shut_after (moov_stops a) (shut_others MOOV z))
