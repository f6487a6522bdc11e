-- Laws of `stsz`. Assumes nothing.
use Prim.Native.Nat.{ℕ, zero, suc, ◌+◌, ◌-◌, ◌*◌, ◌/◌, ◌≤◌, ◌<◌, min}
use native.Mathlib.Omega.{arith}
use native.Mathlib.Numerals.{add-one}
use mathlib.Core.Path.{◌≡◌, refl, sym, ap, ◌∙◌}
use mathlib.Core.List.{List}
use lib.ListN.{length}
use Rattle.wire.specs.Numbers.{word, Bytes}
use Rattle.wire.proofs.Numbers.{word_out, word_most}
use Rattle.wire.proofs.Tests.{eq_or, eq_yea, eq_nay, lt_or}
use Rattle.wire.proofs.Sums.{sum_none, sum_more, sum_mono, sum_flat, sum_level, sum_at_most}
use Rattle.sample_tables.specs.Sizes.{common, sample_count, sizes_listed, Sizes, size_at, bytes_from, four_at}

pub bytes_none : (stsz : List ℕ) (first : ℕ) → 0 ≡ bytes_from stsz first 0
unfolding bytes_from
bytes_none stsz first = sym (sum_none (λ j. size_at stsz (first + j)))

pub bytes_more : (stsz : List ℕ) (first n : ℕ) → bytes_from stsz first (n + 1) ≡ bytes_from stsz first n + size_at stsz (first + n)
unfolding bytes_from
bytes_more stsz first n = sum_more (λ j. size_at stsz (first + j)) n

-- a sample lies among the bytes of those it is counted with
pub sample_within : (stsz : List ℕ) (first j n : ℕ) → j < n → bytes_from stsz first j + size_at stsz (first + j) ≤ bytes_from stsz first n
unfolding bytes_from
sample_within stsz first j n h =
    let f : ℕ → ℕ = λ j. size_at stsz (first + j) in
    omega (arith, sum_more f j, sum_mono f (j + 1) n (omega arith))

-- one part of the samples, and then the rest
pub bytes_join : (stsz : List ℕ) (first i j : ℕ) → bytes_from stsz first i + bytes_from stsz (first + i) j ≡ bytes_from stsz first (i + j)
bytes_join stsz first i zero = let e : i + 0 ≡ i = omega arith in rw e (omega (arith, bytes_none stsz (first + i)))
bytes_join stsz first i (suc j) =
    let e : i + (j + 1) ≡ i + j + 1 = omega arith in
    let a : first + i + j ≡ first + (i + j) = omega arith in
    rw (← add-one j) (omega (
      arith,
      bytes_join stsz first i j,
      ap (bytes_from stsz first) e ∙ bytes_more stsz first (i + j),
      rw a at
          (bytes_more stsz (first + i) j),
    ))

-- they fit: a size is at most the largest of four bytes
pub bytes_fit : (stsz : List ℕ) → Bytes stsz → (first n : ℕ) → bytes_from stsz first n ≤ n * 4294967295
unfolding bytes_from size_at
bytes_fit stsz b first n =
    sum_at_most (λ j. size_at stsz (first + j)) 4294967295 n
    (λ j. eq_or (common stsz) 0 (λ e. rw (← eq_yea _ _ _ _ _ e refl) (word_most _ _ b)) (λ e. rw (← eq_nay _ _ _ _ _ e refl) (word_most _ _ b)))

-- with a common size by one product
pub bytes_common : (stsz : List ℕ) (first n : ℕ) {one : ℕ} → one ≡ common stsz → (one ≡ 0 → ⊥) → n * one ≡ bytes_from stsz first n
unfolding bytes_from size_at
bytes_common stsz first n {one} e z =
    let f : ℕ → ℕ = λ j. size_at stsz (first + j) in
    let s = sum_level f 0 n one (λ j l. sym (eq_nay _ _ _ _ _ (λ y. z (e ∙ y)) e)) in
    let y : 0 + n ≡ n = omega arith in
    omega (arith, sum_none f, rw y at s)

-- with listed sizes
module _ (stsz : List ℕ) (z : common stsz ≡ 0) (first : ℕ) where
  size_listed : (j : ℕ) → size_at stsz (first + j) ≡ word 4 stsz (12 + 4 * (first + j))
  unfolding size_at
  size_listed j = sym (eq_yea _ _ _ _ _ z refl)

  -- one more
  pub listed_more : (i : ℕ) {sum w : ℕ} → sum ≡ bytes_from stsz first i → w ≡ word 4 stsz (12 + 4 * (first + i)) → sum + w ≡ bytes_from stsz first (i + 1)
  listed_more i p q = rw (p, q) (sym (bytes_more stsz first i ∙ rw (size_listed i)))

  -- four more
  pub listed_four : (i : ℕ) {sum w : ℕ} → sum ≡ bytes_from stsz first i → w ≡ four_at stsz (12 + 4 * (first + i)) → sum + w ≡ bytes_from stsz first (i + 4)
  listed_four i {sum} {w} p q =
      let at : (j d : ℕ) → j ≡ i + d → word 4 stsz (12 + 4 * (first + i) + 4 * d) ≡ word 4 stsz (12 + 4 * (first + j)) = λ j d s. ap (word 4 stsz)
      (omega arith) in
      let a = listed_more i p refl in
      let b = listed_more (i + 1) a (at _ 1 (omega arith)) in
      let c = listed_more (i + 1 + 1) b (at _ 2 (omega arith)) in
      let d = listed_more (i + 1 + 1 + 1) c (at _ 3 (omega arith)) in
      let e : i + 1 + 1 + 1 + 1 ≡ i + 4 = omega arith in
      omega (arith, rw e at d)

  -- past the end they are 0
  pub bytes_inside : (n : ℕ) {m : ℕ} → m ≡ min n ((length stsz - (12 + 4 * first)) / 4) → bytes_from stsz first m ≡ bytes_from stsz first n
  unfolding bytes_from
  bytes_inside n {m} e =
      lt_or m n
      (λ h. sym (sum_flat (λ j. size_at stsz (first + j)) m n (λ i k. size_listed i ∙ word_out 4 stsz _ (omega arith)) (omega arith)))
      (λ h. let s : m ≡ n = omega arith in rw s)

  -- and all that are counted are there
  pub held_in : Sizes stsz → (n : ℕ) → first + n ≤ sample_count stsz → n ≤ (length stsz - (12 + 4 * first)) / 4
  unfolding sizes_listed
  held_in t n h = let e : sample_count stsz ≡ sizes_listed stsz = eq_yea _ _ _ _ _ z refl in omega (arith, t.long)
