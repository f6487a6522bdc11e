-- Lists one after the other. Assumes nothing.
use Prim.Native.Nat.{ℕ, zero, suc, ◌+◌, ◌≤◌, ◌<◌}
use native.Mathlib.Omega.{arith}
use native.Mathlib.Numerals.{add-one}
use mathlib.Core.Path.{◌≡◌, refl, sym, ap, ◌∙◌}
use mathlib.Core.List.{List, [], ◌∷◌, ◌++◌, map}
use lib.ListN.{length, drop, length-append}
use lib.Seq.{drop-append-le, drop-append-add}
use Rattle.wire.specs.Sums.{sum_to}
use Rattle.wire.proofs.Tests.{lt_or}
use Rattle.wire.proofs.Sums.{sum_none, sum_more, sum_mono, sum_level}
use Rattle.sample_walk.specs.Samples.{join_to}

pub join_same : {A : Type 0} (f g : ℕ → List A) (n : ℕ) → ((i : ℕ) → i < n → f i ≡ g i) → join_to f n ≡ join_to g n
unfolding join_to
join_same f g zero h = refl
join_same f g (suc n) h = rw (join_same f g n (λ i l. h i (omega arith)), h n (omega arith))

map_append : {A B : Type 0} (g : A → B) (xs ys : List A) → map g (xs ++ ys) ≡ map g xs ++ map g ys
map_append g [] ys = refl
map_append g (x ∷ xs) ys = ap (λ l. g x ∷ l) (map_append g xs ys)

pub join_map : {A B : Type 0} (g : A → B) (f : ℕ → List A) (n : ℕ) → map g (join_to f n) ≡ join_to (λ i. map g (f i)) n
unfolding join_to
join_map g f zero = refl
join_map g f (suc n) = map_append g (join_to f n) (f n) ∙ rw (join_map g f n)

-- ---- by number, where list k has c k elements

module _ {A : Type 0} (f : ℕ → List A) (c : ℕ → ℕ) (e : (k : ℕ) → length (f k) ≡ c k) where
  pub join_length : (n : ℕ) → length (join_to f n) ≡ sum_to c n
  unfolding join_to
  join_length zero = sym (sum_none c)
  join_length (suc n) = length-append (join_to f n) (f n) ∙ rw (← add-one n) (omega (arith, join_length n, e n, sum_more c n))

  -- what stands from number n on in both of two lists, where it does so in the first
  front : (n : ℕ) (x : A) (xs ys : List A) → n + 1 ≤ length xs → drop n xs ≡ x ∷ drop (n + 1) xs → drop n (xs ++ ys) ≡ x ∷ drop (n + 1) (xs ++ ys)
  front n x xs ys h d = drop-append-le n xs ys (omega arith) ∙ ap (λ l. l ++ ys) d ∙ sym (ap (λ l. x ∷ l) (drop-append-le (n + 1) xs ys h))

  back : (n j : ℕ) (x : A) (xs ys : List A) → length xs + j ≡ n → drop j ys ≡ x ∷ drop (j + 1) ys → drop n (xs ++ ys) ≡ x ∷ drop (n + 1) (xs ++ ys)
  back n j x xs ys h d =
      let s : n + 1 ≡ length xs + (j + 1) = omega arith in
      rw (s, ← h, drop-append-add xs ys j, drop-append-add xs ys (j + 1)) d

  -- element j of list k
  pub join_at : (k j m : ℕ) (x : A) → k < m → j < c k → drop j (f k) ≡ x ∷ drop (j + 1) (f k)
      → drop (sum_to c k + j) (join_to f m) ≡ x ∷ drop (sum_to c k + j + 1) (join_to f m)
  unfolding join_to
  join_at k j zero x h l d = absurd (omega arith)
  join_at k j (suc m) x h l d =
      lt_or k m
      (λ i. front (sum_to c k + j) x (join_to f m) (f m) (omega (arith, join_length m, sum_more c k, sum_mono c (k + 1) m (omega arith))) (join_at k j m x i l d))
      (λ i. let s : k ≡ m = omega arith in
      back (sum_to c k + j) j x (join_to f m) (f m) (omega (arith, join_length m, ap (sum_to c) s)) (rw s at d))

-- ---- of one element each

module _ {A : Type 0} (g : ℕ → A) where
  abbrev one : ℕ → ℕ
  one j = 1

  ones : (n : ℕ) → sum_to one n ≡ n
  ones n = let z : 0 + n ≡ n = omega arith in omega (arith, sum_none one, rw z at (sum_level one 0 n 1 (λ j h. refl)))

  pub singles_length : (n : ℕ) → length (join_to (λ j. g j ∷ []) n) ≡ n
  singles_length n = join_length (λ j. g j ∷ []) one (λ j. refl) n ∙ ones n

  pub single_at : (j n : ℕ) → j < n → drop j (join_to (λ j. g j ∷ []) n) ≡ g j ∷ drop (j + 1) (join_to (λ j. g j ∷ []) n)
  single_at j n h =
      let z : j + 0 ≡ j = omega arith in
      rw (ones j, z) at (join_at (λ j. g j ∷ []) one (λ j. refl) j 0 n (g j) h (omega arith) refl)
