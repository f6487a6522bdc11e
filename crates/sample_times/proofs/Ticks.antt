-- The tick of a sample, from the item that counts it. Assumes nothing.
use Prim.Native.Nat.{ℕ, ◌+◌, ◌-◌, ◌*◌, ◌≤◌, ◌<◌}
use native.Mathlib.Omega.{arith}
use mathlib.Core.Path.{◌≡◌, refl, ap, ◌∙◌}
use mathlib.Core.List.{List}
use Rattle.wire.proofs.Sums.{sum_same, sum_mono, sum_flat}
use Rattle.sample_tables.specs.Tables.{items}
use Rattle.sample_tables.specs.Times.{counted, delta, timed_to, ticks_to, counted_of, ticks_of, tick_at}
use Rattle.sample_tables.proofs.Times.{timed_more, tick_more}

module _ (stts : List ℕ) where
  pub timed_mono : (m n : ℕ) → m ≤ n → timed_to stts m ≤ timed_to stts n
  unfolding timed_to
  timed_mono m n h = sum_mono (counted stts) m n h

  module _ (s : ℕ) where
    -- the items before it are counted whole
    whole : (n : ℕ) → timed_to stts n ≤ s → ticks_of stts s n ≡ ticks_to stts n
    unfolding ticks_of ticks_to
    whole n h = sum_same (λ j. counted_of stts s j * delta stts j) (λ j. counted stts j * delta stts j) n item
      where
        item : (j : ℕ) → j < n → counted_of stts s j * delta stts j ≡ counted stts j * delta stts j
        item j k =
            let e : counted_of stts s j ≡ counted stts j = omega (arith, timed_more stts j, timed_mono (j + 1) n (omega arith)) in
            rw e

    -- and those after it not at all
    rest : (m n : ℕ) → s ≤ timed_to stts m → m ≤ n → ticks_of stts s n ≡ ticks_of stts s m
    unfolding ticks_of
    rest m n h l = sum_flat (λ j. counted_of stts s j * delta stts j) m n item l
      where
        item : (j : ℕ) → m ≤ j → counted_of stts s j * delta stts j ≡ 0
        item j k = let e : counted_of stts s j ≡ 0 = omega (arith, timed_mono m j k) in rw e (omega arith)

    -- in item i, or at its end
    pub tick_in : (i : ℕ) → i < items stts → timed_to stts i ≤ s → s ≤ timed_to stts (i + 1) → tick_at stts s ≡ ticks_to stts i + (s - timed_to stts i) * delta stts i
    tick_in i h l m =
        let e : s - timed_to stts i ≡ counted_of stts s i = omega (arith, timed_more stts i) in
        rest (i + 1) (items stts) m (omega arith) ∙ tick_more stts s i refl refl e refl ∙ ap (λ t. t + (s - timed_to stts i) * delta stts i) (whole i l)

    -- past the last item
    pub tick_end : timed_to stts (items stts) ≤ s → tick_at stts s ≡ ticks_to stts (items stts)
    tick_end h = whole (items stts) h
