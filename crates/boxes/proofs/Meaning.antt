-- What a code means of a list of boxes, by its first. Assumes nothing.
use Prim.Native.Nat.{ℕ, suc, ◌+◌, ◌≤◌}
use native.Mathlib.Omega.{arith}
use mathlib.Core.Path.{◌≡◌, refl}
use mathlib.Core.Bool.{Bool, true, false}
use mathlib.Core.List.{List, ◌∷◌}
use lib.Dec.{eqb}
use borrow.Author.Tests.{eqb-true, eqb-false}
use Rattle.wire.specs.Tests.{pick, if_eq}
use Rattle.wire.proofs.Tests.{eq_yea, eq_nay}
use Rattle.boxes.specs.Box.{Box, size, remade}
use Rattle.boxes.specs.Seek.{ANY, meant, count, nth, place_by, form_in}
use Rattle.boxes.specs.Way.{nth_by}

-- ---- one box

pub meant_any : (c d : ℕ) → c ≡ ANY → 1 ≡ meant c d
unfolding meant
meant_any c d h = eq_yea _ _ _ _ _ h refl

pub meant_yes : (c d : ℕ) → (c ≡ ANY → ⊥) → d ≡ c → 1 ≡ meant c d
unfolding meant
meant_yes c d h e = eq_nay _ _ _ _ _ h (eq_yea _ _ _ _ _ e refl)

pub meant_no : (c d : ℕ) → (c ≡ ANY → ⊥) → (d ≡ c → ⊥) → 0 ≡ meant c d
unfolding meant
meant_no c d h e = eq_nay _ _ _ _ _ h (eq_nay _ _ _ _ _ e refl)

pub meant_most : (c d : ℕ) → meant c d ≤ 1
unfolding meant if_eq
meant_most c d = go (eqb c ANY) (eqb d c)
  where
    go : (s t : Bool) → pick s 1 (pick t 1 0) ≤ 1
    go true t = omega arith
    go false true = omega arith
    go false false = omega arith

-- it is meant, or it isn't
pub meant_or : {A : Type 0} (c d : ℕ) → (meant c d ≡ 1 → A) → (meant c d ≡ 0 → A) → A
meant_or {A} c d f g = go (eqb (meant c d) 0) refl
  where
    go : (t : Bool) → eqb (meant c d) 0 ≡ t → A
    go true e = g (eqb-true (meant c d) 0 e)
    go false e = f (omega (arith, meant_most c d, eqb-false (meant c d) 0 e))

pub meant_is : (c d : ℕ) → (c ≡ ANY → ⊥) → meant c d ≡ 1 → d ≡ c
meant_is c d h e = go (eqb d c) refl
  where
    go : (t : Bool) → eqb d c ≡ t → d ≡ c
    go true q = eqb-true d c q
    go false q = absurd (omega (arith, meant_no c d h (eqb-false d c q)))

-- ---- a list whose first box is meant, or isn't

module _ (c : ℕ) (x : Box) (l : List Box) where
  module _ (e : meant c x.code ≡ 1) where
    pub count_hit : count c (x ∷ l) ≡ 1 + count c l
    unfolding count
    count_hit = rw e

    pub nth_hit : nth c 0 (x ∷ l) ≡ x.body
    unfolding nth if_eq
    nth_hit = rw e

    pub nth_next : (n : ℕ) → nth c (suc n) (x ∷ l) ≡ nth c n l
    unfolding nth if_eq
    nth_next n = rw e

    pub place_hit : (f : Box → ℕ) → place_by f c 0 (x ∷ l) ≡ f x
    unfolding place_by if_eq
    place_hit f = rw e

    pub place_next : (f : Box → ℕ) (n : ℕ) → place_by f c (suc n) (x ∷ l) ≡ size x + place_by f c n l
    unfolding place_by if_eq
    place_next f n = rw e

    pub form_hit : form_in c 0 (x ∷ l) ≡ x.form
    unfolding form_in if_eq
    form_hit = rw e

    pub form_next : (n : ℕ) → form_in c (suc n) (x ∷ l) ≡ form_in c n l
    unfolding form_in if_eq
    form_next n = rw e

    pub by_hit : (f : List ℕ → List ℕ) → nth_by c 0 f (x ∷ l) ≡ remade x (f x.body) ∷ l
    unfolding nth_by if_eq
    by_hit f = rw e

    pub by_next : (f : List ℕ → List ℕ) (n : ℕ) → nth_by c (suc n) f (x ∷ l) ≡ x ∷ nth_by c n f l
    unfolding nth_by if_eq
    by_next f n = rw e

  module _ (e : meant c x.code ≡ 0) where
    pub count_miss : count c (x ∷ l) ≡ count c l
    unfolding count
    count_miss = rw e (omega arith)

    pub nth_miss : (n : ℕ) → nth c n (x ∷ l) ≡ nth c n l
    unfolding nth if_eq
    nth_miss n = rw e

    pub place_miss : (f : Box → ℕ) (n : ℕ) → place_by f c n (x ∷ l) ≡ size x + place_by f c n l
    unfolding place_by if_eq
    place_miss f n = rw e

    pub form_miss : (n : ℕ) → form_in c n (x ∷ l) ≡ form_in c n l
    unfolding form_in if_eq
    form_miss n = rw e

    pub by_miss : (f : List ℕ → List ℕ) (n : ℕ) → nth_by c n f (x ∷ l) ≡ x ∷ nth_by c n f l
    unfolding nth_by if_eq
    by_miss f n = rw e
