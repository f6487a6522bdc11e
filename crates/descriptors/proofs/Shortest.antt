-- A length there and back: the bytes of a number read as it, in as many bytes as it takes and as few. Assumes nothing.
use Prim.Native.Nat.{ℕ, zero, suc, ◌+◌, ◌-◌, ◌*◌, ◌/◌, ◌%◌, ◌^◌, ◌≤◌, ◌<◌}
use native.Mathlib.Omega.{arith}
use native.Mathlib.Nat.{pow-suc, add-suc, suc-add, pow-le-pow_right}
use native.Mathlib.Numerals.{add-one}
use Rattle.std.specs.Prelude.{is_some}
use mathlib.Core.Bool.{false≢true}
use mathlib.Core.Path.{◌≡◌, refl, sym, ap, ◌∙◌}
use mathlib.Core.List.{List, [], ◌∷◌, ◌++◌}
use mathlib.Core.Logic.{⊎_elim}
use lib.ListN.{length, take}
use Rattle.wire.specs.Numbers.{Bytes}
use Rattle.wire.specs.Writing.{Put}
use Rattle.wire.proofs.Writing.{pen_none, pen_then, pen_is}
use Rattle.wire.proofs.Tests.{lt_yea, lt_nay, lt_or, lt_ways}
use Rattle.descriptors.specs.Lengths.{in_bytes, length_from, length_at, more_on, length_bytes, least_more, shortest, TOO_LONG}
use Rattle.descriptors.proofs.Lengths.{more_fits, same_length, said}

-- ---- bytes with the top bit set

pub more_append : (w n : ℕ) (xs ys : List ℕ) → more_on w n xs ++ ys ≡ more_on w n (xs ++ ys)
unfolding more_on
more_append zero n xs ys = refl
more_append (suc w) n xs ys = more_append w (n / 128) ((128 + n % 128) ∷ xs) ys

pub length_more : (w n : ℕ) (xs : List ℕ) → length (more_on w n xs) ≡ w + length xs
unfolding more_on
length_more zero n xs = omega arith
length_more (suc w) n xs = length_more w (n / 128) ((128 + n % 128) ∷ xs) ∙ omega (arith, add-one w, add-one (length xs))

-- they are read as the number, and then what follows them
more_read : (w v n k : ℕ) (xs : List ℕ) → n < 128 ^ w → length_from (w + v) 0 k (more_on w n xs) ≡ length_from v n (k + w) xs
unfolding more_on length_from
more_read zero v n k xs h =
    let z : n ≡ 0 = omega arith in
    let a : 0 + v ≡ v = omega arith in
    let b : k + 0 ≡ k = omega arith in
    rw (z, a, b)
more_read (suc w) v n k xs h =
    let a : suc w + v ≡ w + suc v = suc-add w v ∙ sym (add-suc w v) in
    let l : n / 128 < 128 ^ w = omega (arith, pow-suc 128 w) in
    let p : n ≡ n / 128 * 128 + (128 + n % 128) % 128 = omega arith in
    let q : k + suc w ≡ k + w + 1 = omega (arith, add-one w) in
    rw a
    (more_read w (suc v) (n / 128) k ((128 + n % 128) ∷ xs) l
    ∙ sym (lt_nay (128 + n % 128) 128 _ _ _ (omega arith) (ap (λ (m : ℕ). length_from v m (k + suc w) xs) p ∙ rw q)))

-- ---- a length of w bytes and one

module _ (w n : ℕ) where
  pub length_bytes_lem : length (length_bytes w n) ≡ w + 1
  unfolding length_bytes
  length_bytes_lem = length_more w (n / 128) (n % 128 ∷ [])

  -- there
  pub bytes_read : w ≤ 3 → n < 128 ^ suc w → (xs : List ℕ) → length_at (length_bytes w n ++ xs) ≡ in_bytes n (w + 1)
  unfolding length_at length_bytes length_from
  bytes_read h l xs =
      let e : 4 ≡ w + suc (3 - w) = omega (arith, add-one (3 - w)) in
      let d : n / 128 < 128 ^ w = omega (arith, pow-suc 128 w) in
      let p : n ≡ n / 128 * 128 + n % 128 = omega arith in
      let z : 0 + w ≡ w = omega arith in
      rw more_append
      (ap (λ (v : ℕ). length_from v 0 0 (more_on w (n / 128) (n % 128 ∷ xs))) e
      ∙ more_read w (suc (3 - w)) (n / 128) 0 (n % 128 ∷ xs) d
      ∙ ap (λ (k : ℕ). length_from (suc (3 - w)) (n / 128) k (n % 128 ∷ xs)) z
      ∙ sym (lt_yea (n % 128) 128 _ _ _ (omega arith) (ap (λ (m : ℕ). in_bytes m (w + 1)) p)))

-- ---- the shortest

-- by how many bytes it takes
by_least : (P : ℕ → Type 0) (n : ℕ) → (n < 128 → P 0) → (128 ≤ n → n < 16384 → P 1) → (16384 ≤ n → n < 2097152 → P 2) → (2097152 ≤ n → P 3) → P (least_more n)
unfolding least_more
by_least P n a b c d =
    lt_or n 128 (λ l. let e : least_more n ≡ 0 = sym (lt_yea _ _ _ _ _ l refl) in rw e (a l))
    (λ g. lt_or n 16384 (λ l. let e : least_more n ≡ 1 = sym (lt_nay _ _ _ _ _ g (lt_yea _ _ _ _ _ l refl)) in rw e (b g l))
    (λ g2. lt_or n 2097152 (λ l. let e : least_more n ≡ 2 = sym (lt_nay _ _ _ _ _ g (lt_nay _ _ _ _ _ g2 (lt_yea _ _ _ _ _ l refl))) in rw e (c g2 l))
    (λ g3. let e : least_more n ≡ 3 = sym (lt_nay _ _ _ _ _ g (lt_nay _ _ _ _ _ g2 (lt_nay _ _ _ _ _ g3 refl))) in rw e (d g3))))

pub least_few : (n : ℕ) → least_more n ≤ 3
least_few n = by_least (λ v. v ≤ 3) n (λ a. omega arith) (λ a b. omega arith) (λ a b. omega arith) (λ a. omega arith)

least_fits : (n : ℕ) → n < TOO_LONG → n < 128 ^ suc (least_more n)
least_fits n h = by_least (λ v. n < 128 ^ suc v) n (λ a. omega arith) (λ a b. omega arith) (λ a b. omega arith) (λ a. omega arith)

-- no fewer bytes say it
pub least : (n w : ℕ) → n < 128 ^ suc w → least_more n ≤ w
least n w h =
    by_least (λ v. v ≤ w) n (λ a. omega arith) (λ a b. at 1 (omega arith)) (λ a b. at 2 (omega arith)) (λ a. at 3 (omega arith))
  where
    at : (v : ℕ) → 128 ^ v ≤ n → v ≤ w
    at v g =
        lt_or w v
        (λ l. absurd (let m : 128 ^ suc w ≤ 128 ^ v = pow-le-pow_right {n = 128} (omega arith) {i = suc w} {j = v} l in omega arith))
        (λ l. l)

module _ (n : ℕ) where
  pub length_shortest : length (shortest n) ≡ least_more n + 1
  unfolding shortest
  length_shortest = length_bytes_lem (least_more n) n

  pub shortest_read : n < TOO_LONG → (xs : List ℕ) → length_at (shortest n ++ xs) ≡ in_bytes n (least_more n + 1)
  unfolding shortest
  shortest_read h xs = bytes_read (least_more n) n (least_few n) (least_fits n h) xs

-- ---- and back: a length that is read is that of its number in as many bytes

again : (w n k : ℕ) (xs : List ℕ) (m j : ℕ) → Bytes xs → n < 128 ^ k → length_from w n k xs ≡ in_bytes m j → more_on k n (take (j - k) xs) ≡ length_bytes (j - 1) m
unfolding length_from length_bytes more_on
again zero n k xs m j b h e = absurd (false≢true (ap is_some e))
again (suc w) n k [] m j b h e = absurd (false≢true (ap is_some e))
again (suc w) n k (x ∷ xs) m j b h e =
    ⊎_elim
    (λ t.
    let p : n * 128 + x ≡ m = (same_length t.1).0 in
    let r : k + 1 ≡ j = (same_length t.1).1 in
    let a : j - k ≡ 1 = omega arith in
    let c : j - 1 ≡ k = omega arith in
    let d : m / 128 ≡ n = omega arith in
    let f : m % 128 ≡ x = omega arith in
    rw (a, c, d, f))
    (λ t.
    let u = n * 128 + x % 128 in
    let g : u < 128 ^ (k + 1) = more_fits n k (x % 128) h (omega arith) in
    let s = said w u (k + 1) xs m j g t.1 in
    let i : more_on (suc k) u (take (j - (k + 1)) xs) ≡ length_bytes (j - 1) m =
    ap (λ (v : ℕ). more_on v u (take (j - (k + 1)) xs)) (sym (add-one k)) ∙ again w u (k + 1) xs m j (λ i. b (suc i)) g t.1 in
    let a : j - k ≡ suc (j - (k + 1)) = omega (arith, s.past, add-one (j - (k + 1))) in
    let c : n ≡ u / 128 = omega arith in
    let d : x ≡ 128 + u % 128 = omega (arith, b 0) in
    rw a (ap (λ (v : ℕ). more_on k v (x ∷ take (j - (k + 1)) xs)) c ∙ ap (λ (y : ℕ). more_on k (u / 128) (y ∷ take (j - (k + 1)) xs)) d ∙ i))
    (lt_ways x 128 _ _ _ e)

pub read_again : (xs : List ℕ) (n k : ℕ) → Bytes xs → length_at xs ≡ in_bytes n k → take k xs ≡ length_bytes (k - 1) n
unfolding length_at more_on
read_again xs n k b e = let z : k - 0 ≡ k = omega arith in rw z at (again 4 0 0 xs n k b (omega arith) e)

-- ---- how it is written

pub put_none : (w n : ℕ) (out : List ℕ) {at : ℕ} → w ≡ 0 → Put (more_on w n []) out at at out
unfolding more_on
put_none w n out {at} z = rw z (pen_none out at)

-- the bytes before, and one more
pub put_one_more : (w n : ℕ) {out mid after : List ℕ} {at m r : ℕ} → (w ≡ 0 → ⊥) → Put (more_on (w - 1) (n / 128) []) out at m mid
    → Put ((128 + n % 128) ∷ []) mid m r after → Put (more_on w n []) out at r after
unfolding more_on
put_one_more zero n z p q = absurd (z refl)
put_one_more (suc w) n z p q =
    let s : suc w - 1 ≡ w = omega arith in
    pen_is (more_append w (n / 128) [] ((128 + n % 128) ∷ [])) (pen_then (rw s at p) q)

pub put_last : (n : ℕ) {out mid after : List ℕ} {at m r w : ℕ} → w ≡ least_more n → Put (more_on w (n / 128) []) out at m mid → Put (n % 128 ∷ []) mid m r after
    → Put (shortest n) out at r after
unfolding shortest length_bytes
put_last n e p q = pen_is (more_append (least_more n) (n / 128) [] (n % 128 ∷ [])) (pen_then (rw e at p) q)
