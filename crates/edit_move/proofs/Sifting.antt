-- Boxes in another order: `moov` before the others, and right after the first. Assumes nothing.
use Prim.Native.Nat.{ℕ}
use mathlib.Core.Path.{◌≡◌, refl, ◌∙◌}
use mathlib.Core.Bool.{Bool, true, false}
use mathlib.Core.List.{List, [], ◌∷◌, ◌++◌}
use lib.Dec.{eqb}
use borrow.Author.Tests.{eqb-true, eqb-false}
use Rattle.wire.specs.Tests.{pick, if_eq}
use Rattle.codes.specs.Codes.{MOOV}
use Rattle.wire.proofs.Tests.{eq_any}
use Rattle.boxes.specs.Box.{Box}
use Rattle.boxes.proofs.Reading.{All}
use Rattle.boxes.proofs.Reading.All.{none, some}
use Rattle.boxes.proofs.Every.{all_append}
use Rattle.edit_move.specs.Moving.{just, others, moov_second}

all_just : (l : List Box) → All (λ x. x.code ≡ MOOV) (just MOOV l)
unfolding just if_eq
all_just [] = none
all_just (y ∷ l) = go (eqb y.code MOOV) refl (all_just l)
  where
    go : (t : Bool) → eqb y.code MOOV ≡ t → All (λ x. x.code ≡ MOOV) (just MOOV l) → All (λ x. x.code ≡ MOOV) (pick t (y ∷ just MOOV l) (just MOOV l))
    go true e ih = some (eqb-true _ _ e) ih
    go false e ih = ih

-- ---- what sees no order of a `moov` and another box

module _ {X : Type 0} (F : List Box → X) (under : (y : Box) (l m : List Box) → F l ≡ F m → F (y ∷ l) ≡ F (y ∷ m))
    (swap : (x y : Box) (l : List Box) → x.code ≡ MOOV → (y.code ≡ MOOV → ⊥) → F (x ∷ y ∷ l) ≡ F (y ∷ x ∷ l)) where
  to_front : (y : Box) (q : List Box) → (y.code ≡ MOOV → ⊥) → {p : List Box} → All (λ x. x.code ≡ MOOV) p → F (p ++ y ∷ q) ≡ F (y ∷ (p ++ q))
  to_front y q n none = refl
  to_front y q n (some {x} {l = p} h a) = under x (p ++ y ∷ q) (y ∷ (p ++ q)) (to_front y q n a) ∙ swap x y (p ++ q) h n

  sifted : (l : List Box) → F (just MOOV l ++ others MOOV l) ≡ F l
  unfolding just others if_eq
  sifted [] = refl
  sifted (y ∷ l) = go (eqb y.code MOOV) refl (sifted l)
    where
      go : (t : Bool) → eqb y.code MOOV ≡ t → F (just MOOV l ++ others MOOV l) ≡ F l → F (pick t (y ∷ just MOOV l) (just MOOV l) ++ pick t (others MOOV l) (y ∷ others MOOV l)) ≡ F (y ∷ l)
      go true e ih = under y _ _ ih
      go false e ih = to_front y (others MOOV l) (eqb-false _ _ e) (all_just l) ∙ under y _ _ ih

  -- does not see that `moov` comes second
  pub seconded : (l : List Box) → F (moov_second l) ≡ F l
  unfolding moov_second
  seconded [] = refl
  seconded (x ∷ l) = under x _ _ (sifted l)

-- ---- a property of every box

module _ {P : Box → Type 0} where
  each_just : (c : ℕ) {l : List Box} → All P l → All P (just c l)
  unfolding just
  each_just c none = none
  each_just c (some h a) = let i = each_just c a in eq_any (All P) _ _ _ _ (some h i) i

  each_others : (c : ℕ) {l : List Box} → All P l → All P (others c l)
  unfolding others
  each_others c none = none
  each_others c (some h a) = let i = each_others c a in eq_any (All P) _ _ _ _ i (some h i)

  -- it is one of every box in the other order
  pub each_second : {l : List Box} → All P l → All P (moov_second l)
  unfolding moov_second
  each_second none = none
  each_second (some {x} {l} h a) = some h (all_append (each_just MOOV a) (each_others MOOV a))
