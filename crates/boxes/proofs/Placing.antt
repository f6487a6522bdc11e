-- Laws of places: where the n-th box of a code starts, as a search finds it. Assumes nothing.
use Prim.Native.Nat.{ℕ, ◌+◌, ◌-◌, ◌≤◌}
use native.Mathlib.Omega.{arith}
use mathlib.Core.Path.{◌≡◌, refl, sym, ap, ◌∙◌}
use mathlib.Core.Bool.{Bool, true, false}
use mathlib.Core.List.{List, [], ◌∷◌}
use lib.ListN.{length}
use lib.Seq.{length-take-le}
use Rattle.std.specs.Result.{is_ok}
use Rattle.wire.proofs.Clauses.{eq_is}
use Rattle.wire.specs.Tests.{pick}
use Rattle.wire.specs.Numbers.{Bytes}
use Rattle.boxes.specs.declared.walk.BoxAt.{BoxAt}
use Rattle.boxes.specs.Box.{Box, head, write}
use Rattle.boxes.specs.Boxes.{boxes, total, after, tiles}
use Rattle.boxes.specs.Walk.{box_at}
use Rattle.boxes.specs.Seek.{tiling_of, count, nth, place_by, place_in, start_in, Cut, Tiling, Whole, Torn}
use Rattle.boxes.proofs.Reading.{lengths, length_cons}
use Rattle.boxes.proofs.Meaning.{nth_hit, nth_next, nth_miss, place_hit, place_next, place_miss}
use Rattle.boxes.proofs.Numbered.{by_number, place_is, place_past}

-- ---- boxes written take their sizes

pub length_write : (l : List Box) → length (write l) ≡ total l
unfolding write total
length_write [] = refl
length_write (x ∷ l) = length_cons x l ∙ omega (arith, length_write l)

-- the boxes of a part, and then what is past them
pub total_is : (xs : List ℕ) → total (boxes xs) + length (after xs) ≡ length xs
total_is xs = omega (arith, length_write (boxes xs), lengths xs)

-- where the n-th box starts, and all of its payload
pub place_most : (c n : ℕ) (l : List Box) → place_in c n l ≤ total l
unfolding place_in place_by total
place_most c =
    by_number c (λ n l. place_in c n l ≤ total l)
    (λ n. omega arith)
    (λ n x l e ih. rw (place_miss c x l e (λ y. 0) n) (omega arith))
    (λ x l e. rw (place_hit c x l e (λ y. 0)) (omega arith))
    (λ n x l e ih. rw (place_next c x l e (λ y. 0) n) (omega arith))

pub start_most : (c n : ℕ) (l : List Box) → start_in c n l + length (nth c n l) ≤ total l
unfolding start_in place_by nth total
start_most c =
    by_number c (λ n l. start_in c n l + length (nth c n l) ≤ total l)
    (λ n. omega arith)
    (λ n x l e ih. rw (nth_miss c x l e n, place_miss c x l e head n) (omega arith))
    (λ x l e. rw (nth_hit c x l e, place_hit c x l e head) (omega arith))
    (λ n x l e ih. rw (nth_next c x l e n, place_next c x l e head n) (omega arith))

-- ---- the n-th box

-- the boxes before it end where it starts
pub total_before : {xs : List ℕ} {c n : ℕ} {b : BoxAt} → Bytes xs → (s : Cut xs c n b) → total s.p ≡ b.at
total_before {xs} {b = b} v s = sym (length_write s.p) ∙ sym (ap length s.before) ∙ length-take-le b.at xs (omega (arith, s.inside))

by_cut : (f : Box → ℕ) (c : ℕ) {xs : List ℕ} {n : ℕ} {b : BoxAt} → Bytes xs → Cut xs c n b → place_by f c n (boxes xs) ≡ b.at + f (box_at xs b)
by_cut f c {xs} {n} {b} v s = rw s.list (place_is f c n s.p (box_at xs b) s.q s.nth s.hit ∙ omega (arith, total_before v s))

-- ---- as code asks

module _ (c n : ℕ) (xs : List ℕ) (v : Bytes xs) where
  pub place_at : {b : BoxAt} → Cut xs c n b → (b.at ≡ place_in c n (boxes xs)) × (b.at ≤ length xs)
  unfolding place_in
  place_at s = (sym (by_cut (λ x. 0) c v s ∙ omega arith), omega (arith, s.inside))

  pub start_at : {b : BoxAt} → Cut xs c n b → (b.at + b.head ≡ start_in c n (boxes xs)) × (b.at + b.head ≤ length xs)
  unfolding start_in
  start_at s = (omega (arith, by_cut head c v s, s.head), omega (arith, s.inside, s.least))

  module _ (h : count c (boxes xs) ≤ n) {r : ℕ} (e : r ≡ total (boxes xs)) where
    pub place_none : (r ≡ place_in c n (boxes xs)) × (r ≤ length xs)
    unfolding place_in
    place_none = (e ∙ sym (place_past (λ x. 0) c n (boxes xs) h), omega (arith, total_is xs))

    pub start_none : (r ≡ start_in c n (boxes xs)) × (r ≤ length xs)
    unfolding start_in
    start_none = (e ∙ sym (place_past head c n (boxes xs) h), omega (arith, total_is xs))

-- how a part ends, as a test
module _ (xs : List ℕ) {t : Tiling} (e : t ≡ tiling_of xs) where
  pub was_tiled : is_ok t ≡ tiles xs
  unfolding tiling_of
  was_tiled = rw e (go (tiles xs) (length xs - length (after xs)))
    where
      go : (b : Bool) (p : ℕ) → is_ok (pick b Whole (Torn p)) ≡ b
      go true p = refl
      go false p = refl

-- where the tiling ends
module _ (xs : List ℕ) {t : Tiling} (e : t ≡ tiling_of xs) where
  pub past_whole : t ≡ Whole → length xs ≡ total (boxes xs)
  unfolding tiling_of
  past_whole q = go (tiles xs) refl (sym e ∙ q)
    where
      go : (s : Bool) → tiles xs ≡ s → pick s Whole (Torn (length xs - length (after xs))) ≡ Whole → length xs ≡ total (boxes xs)
      go true z w = omega (arith, total_is xs, eq_is (length (after xs)) 0 z)
      go false z w = let o : ◌≡◌ {A = ℕ} 0 1 = cc in absurd (omega arith)

  pub past_torn : (p : ℕ) → t ≡ Torn p → p ≡ total (boxes xs)
  unfolding tiling_of
  past_torn p q = go (tiles xs) (sym e ∙ q)
    where
      go : (s : Bool) → pick s Whole (Torn (length xs - length (after xs))) ≡ Torn p → p ≡ total (boxes xs)
      go true w = let o : ◌≡◌ {A = ℕ} 0 1 = cc in absurd (omega arith)
      go false w = let z : length xs - length (after xs) ≡ p = cc in omega (arith, total_is xs)
