-- Laws of `stts`. Assumes nothing.
use Prim.Native.Nat.{ℕ, ◌+◌, ◌-◌, ◌*◌, ◌≤◌, ◌<◌, min}
use native.Mathlib.Omega.{arith}
use native.Mathlib.Nat.{mul-le-mul_left}
use mathlib.Core.Path.{◌≡◌, sym}
use mathlib.Core.List.{List}
use Rattle.wire.specs.Numbers.{Bytes}
use Rattle.wire.proofs.Sums.{sum_none, sum_more, sum_mono, sum_scaled}
use Rattle.wire.proofs.Numbers.{word_most}
use Rattle.sample_tables.specs.Tables.{items}
use Rattle.sample_tables.specs.Times.{counted, delta, timed_to, ticks_to, timed, ticks_of}

module _ (stts : List ℕ) where
  pub timed_none : 0 ≡ timed_to stts 0
  unfolding timed_to
  timed_none = sym (sum_none (counted stts))

  pub timed_more : (i : ℕ) → timed_to stts (i + 1) ≡ timed_to stts i + counted stts i
  unfolding timed_to
  timed_more i = sum_more (counted stts) i

  pub ticks_none : 0 ≡ ticks_to stts 0
  unfolding ticks_to
  ticks_none = sym (sum_none (λ i. counted stts i * delta stts i))

  module _ (i : ℕ) {n d : ℕ} (p : n ≡ counted stts i) (q : d ≡ delta stts i) where
    pub ticks_more : ticks_to stts (i + 1) ≡ ticks_to stts i + n * d
    unfolding ticks_to
    ticks_more = rw (p, q) (sum_more (λ i. counted stts i * delta stts i) i)

    -- with at most 65,536 samples nothing passes 2^48
    pub ticks_fit : Bytes stts → timed stts ≤ 65536 → i < items stts → ticks_to stts i + n * d ≤ 65536 * 4294967295
    unfolding timed_to ticks_to
    ticks_fit b few h =
        let s = sum_scaled (counted stts) (delta stts) 4294967295 (i + 1) (λ k. word_most _ _ b) in
        omega (arith, ticks_more, sum_mono (counted stts) (i + 1) (items stts) (omega arith))

  -- ---- the tick of sample s
  module _ (s : ℕ) where
    pub left_none : s ≡ s - timed_to stts 0
    left_none = rw (sym timed_none) (omega arith)

    pub left_more : (i : ℕ) {m n left : ℕ} → left ≡ s - timed_to stts i → m ≡ counted stts i → n ≡ min m left → left - n ≡ s - timed_to stts (i + 1)
    left_more i o p q = rw (timed_more i) (omega arith)

    pub tick_none : 0 ≡ ticks_of stts s 0
    unfolding ticks_of
    tick_none = sym (sum_none (λ i. min (counted stts i) (s - timed_to stts i) * delta stts i))

    pub tick_more : (i : ℕ) {m n d left : ℕ} → left ≡ s - timed_to stts i → m ≡ counted stts i → n ≡ min m left → d ≡ delta stts i → ticks_of stts s (i + 1) ≡ ticks_of stts s i + n * d
    unfolding ticks_of
    tick_more i o p q r = rw (q, p, o, r) (sum_more (λ i. min (counted stts i) (s - timed_to stts i) * delta stts i) i)

-- a delta is less than 2^32
pub tick_most : (n : ℕ) {d : ℕ} → d < 4294967296 → n * d ≤ n * 4294967295
tick_most n h = mul-le-mul_left n (omega arith)
