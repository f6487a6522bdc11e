-- The n-th box that a code means. Assumes nothing.
use Prim.Native.Nat.{ℕ, zero, suc, ◌+◌, ◌≤◌, ◌<◌}
use native.Mathlib.Omega.{arith}
use mathlib.Core.Path.{◌≡◌, refl, sym, ◌∙◌}
use mathlib.Core.List.{List, [], ◌∷◌, ◌++◌}
use lib.ListN.{length}
use Rattle.boxes.specs.Box.{Box, write}
use Rattle.boxes.specs.Boxes.{boxes, total}
use Rattle.boxes.specs.Seek.{ANY, meant, count, nth, place_by}
use Rattle.boxes.proofs.Meaning.{meant_any, meant_or, nth_hit, nth_next, nth_miss, place_hit, place_next, place_miss}
use Rattle.boxes.proofs.Reading.{lengths, length_cons}

-- ---- counting

pub count_append : (c : ℕ) (l m : List Box) → count c (l ++ m) ≡ count c l + count c m
unfolding count
count_append c [] m = omega arith
count_append c (x ∷ l) m = omega (arith, count_append c l m)

-- any box counts
pub count_any : (l : List Box) → count ANY l ≡ length l
unfolding count
count_any [] = refl
count_any (x ∷ l) = omega (arith, count_any l, meant_any ANY x.code refl)

-- ---- by number

-- what holds of no box, and of a list whose first box isn't meant, is the one, or is passed, holds of every list
pub by_number : (c : ℕ) (P : ℕ → List Box → Type 0) → ((n : ℕ) → P n []) → ((n : ℕ) (x : Box) (l : List Box) → meant c x.code ≡ 0 → P n l → P n (x ∷ l))
    → ((x : Box) (l : List Box) → meant c x.code ≡ 1 → P 0 (x ∷ l)) → ((n : ℕ) (x : Box) (l : List Box) → meant c x.code ≡ 1 → P n l → P (suc n) (x ∷ l)) → (n : ℕ) (l : List Box) → P n l
by_number c P none miss hit next n [] = none n
by_number c P none miss hit next zero (x ∷ l) = meant_or c x.code (hit x l) (λ e. miss 0 x l e (by_number c P none miss hit next 0 l))
by_number c P none miss hit next (suc n) (x ∷ l) =
    meant_or c x.code (λ e. next n x l e (by_number c P none miss hit next n l)) (λ e. miss (suc n) x l e (by_number c P none miss hit next (suc n) l))

-- ---- its payload

pub nth_is : (c n : ℕ) (p : List Box) (x : Box) (q : List Box) → count c p ≡ n → meant c x.code ≡ 1 → nth c n (p ++ x ∷ q) ≡ x.body
unfolding count
nth_is c n p x q k h =
    by_number c (λ n p. count c p ≡ n → nth c n (p ++ x ∷ q) ≡ x.body)
    (λ n k. rw (← k) (nth_hit c x q h))
    (λ n y p e ih k. nth_miss c y (p ++ x ∷ q) e n ∙ ih (omega arith))
    (λ y p e k. absurd (omega arith))
    (λ n y p e ih k. nth_next c y (p ++ x ∷ q) e n ∙ ih (omega arith)) n p k

pub nth_none : (c n : ℕ) (l : List Box) → count c l ≤ n → [] ≡ nth c n l
unfolding count nth
nth_none c =
    by_number c (λ n l. count c l ≤ n → [] ≡ nth c n l)
    (λ n k. refl)
    (λ n x l e ih k. ih (omega arith) ∙ sym (nth_miss c x l e n))
    (λ x l e k. absurd (omega arith))
    (λ n x l e ih k. ih (omega arith) ∙ sym (nth_next c x l e n))

-- where something is found there is a box
pub nth_there : (c n : ℕ) (l : List Box) → (nth c n l ≡ [] → ⊥) → n < count c l
unfolding count nth
nth_there c =
    by_number c (λ n l. (nth c n l ≡ [] → ⊥) → n < count c l)
    (λ n h. absurd (h refl))
    (λ n x l e ih h. omega (arith, ih (rw (nth_miss c x l e n) at h)))
    (λ x l e h. omega arith)
    (λ n x l e ih h. omega (arith, ih (rw (nth_next c x l e n) at h)))

-- what is found in a part is no longer than it
nth_short : (c n : ℕ) (l : List Box) → length (nth c n l) ≤ length (write l)
unfolding nth
nth_short c =
    by_number c (λ n l. length (nth c n l) ≤ length (write l))
    (λ n. omega arith)
    (λ n x l e ih. rw (nth_miss c x l e n) (omega (arith, length_cons x l)))
    (λ x l e. rw (nth_hit c x l e) (omega (arith, length_cons x l)))
    (λ n x l e ih. rw (nth_next c x l e n) (omega (arith, length_cons x l)))

pub found_short : (c n : ℕ) (xs : List ℕ) {ys : List ℕ} → ys ≡ nth c n (boxes xs) → length ys ≤ length xs
found_short c n xs e = rw e (omega (arith, nth_short c n (boxes xs), lengths xs))

-- ---- its place

module _ (f : Box → ℕ) (c : ℕ) where
  pub place_is : (n : ℕ) (p : List Box) (x : Box) (q : List Box) → count c p ≡ n → meant c x.code ≡ 1 → place_by f c n (p ++ x ∷ q) ≡ total p + f x
  unfolding count total
  place_is n p x q k h =
      by_number c (λ n p. count c p ≡ n → place_by f c n (p ++ x ∷ q) ≡ total p + f x)
      (λ n k. rw (← k, place_hit c x q h f) (omega arith))
      (λ n y p e ih k. rw (place_miss c y (p ++ x ∷ q) e f n) (omega (arith, ih (omega arith))))
      (λ y p e k. absurd (omega arith))
      (λ n y p e ih k. rw (place_next c y (p ++ x ∷ q) e f n) (omega (arith, ih (omega arith)))) n p k

  pub place_past : (n : ℕ) (l : List Box) → count c l ≤ n → place_by f c n l ≡ total l
  unfolding count place_by total
  place_past =
      by_number c (λ n l. count c l ≤ n → place_by f c n l ≡ total l)
      (λ n k. refl)
      (λ n x l e ih k. rw (place_miss c x l e f n) (omega (arith, ih (omega arith))))
      (λ x l e k. absurd (omega arith))
      (λ n x l e ih k. rw (place_next c x l e f n) (omega (arith, ih (omega arith))))
