-- Laws of the clock. Assumes nothing.
use Prim.Native.Nat.{ℕ, ◌+◌, ◌-◌, ◌*◌, ◌≤◌, ◌<◌}
use native.Mathlib.Omega.{arith}
use native.Mathlib.Nat.{mul-le-mul_right}
use mathlib.Core.Path.{◌≡◌, sym, ap, ◌∙◌}
use mathlib.Core.List.{List}
use mathlib.Core.Logic.{⊎_elim}
use Rattle.wire.specs.Numbers.{Bytes}
use Rattle.wire.proofs.Tests.{lt_yea, lt_nay, lt_ways}
use Rattle.sample_tables.specs.Tables.{items}
use Rattle.sample_tables.specs.Times.{counted, delta, timed_to, ticks_to, timed, tick_at}
use Rattle.sample_tables.specs.declared.time.MediaTicks.{MediaTicks}
use Rattle.sample_tables.proofs.Times.{timed_none, timed_more, ticks_none, ticks_more, ticks_fit}
use Rattle.sample_times.specs.declared.clock.Clock.{Clock}
use Rattle.sample_times.specs.declared.clock.Turned.TheVariants.{At, Behind}
use Rattle.sample_times.specs.Clocks.{Clocked, clock_start, clock_at, start_tick, turn_of}
use Rattle.sample_times.proofs.Ticks.{timed_mono, tick_in, tick_end}

module _ (stts : List ℕ) where
  pub clock_start_lem : clock_start ≡ clock_at stts 0
  unfolding clock_at
  clock_start_lem = rw (← timed_none stts, ← ticks_none stts)

  -- a clock knows its item
  module _ (w : Clock) (i : ℕ) (e : w ≡ clock_at stts i) where
    pub clock_item : w.item ≡ i
    unfolding clock_at
    clock_item = ap (λ (v : Clock). v.item) e

    pub clock_sample : w.sample ≡ timed_to stts i
    unfolding clock_at
    clock_sample = ap (λ (v : Clock). v.sample) e

    pub clock_tick : w.tick ≡ ticks_to stts i
    unfolding clock_at
    clock_tick = ap (λ (v : Clock). v.tick) e

  -- what it does with a sample
  module _ (w : Clock) (s : ℕ) (e : w ≡ clock_at stts w.item) (l : timed_to stts w.item ≤ s) where
    pub turn_last : s ≤ timed stts → w.item ≡ items stts → At (record { 0 = w.tick }) ≡ turn_of stts w.item s
    unfolding turn_of
    turn_last h g =
        let t = clock_tick w w.item e in
        let n : timed stts ≤ timed_to stts (w.item + 1) = timed_mono stts (items stts) (w.item + 1) (omega arith) in
        let m : timed_to stts (items stts) ≤ s = rw (← g) l in
        let u : tick_at stts s ≡ w.tick = tick_end stts s m ∙ rw (← g) (sym t) in
        lt_nay _ _ _ _ _ (omega arith) (rw u)

    module _ {n d : ℕ} (p : n ≡ counted stts w.item) (q : d ≡ delta stts w.item) (h : w.item < items stts) where
      pub turn_behind : n < s - w.sample → Behind (record { item = w.item + 1; sample = w.sample + n; tick = w.tick + n * d }) ≡ turn_of stts w.item s
      unfolding turn_of clock_at
      turn_behind k =
          let a = clock_sample w w.item e in
          let b = clock_tick w w.item e in
          let c = timed_more stts w.item in
          let g = ticks_more stts w.item p q in
          lt_yea _ _ _ _ _ (omega arith) (cc)

      pub turn_at : s - w.sample ≤ n → At (record { 0 = w.tick + (s - w.sample) * d }) ≡ turn_of stts w.item s
      unfolding turn_of
      turn_at k =
          let a = clock_sample w w.item e in
          let b = clock_tick w w.item e in
          let t = tick_in stts s w.item h l (omega (arith, timed_more stts w.item)) in
          lt_nay _ _ _ _ _ (omega (arith, timed_more stts w.item)) (rw (t, a, b, q))

      -- with at most 65,536 samples nothing passes 2^48
      pub item_fits : Bytes stts → Clocked stts → w.tick + n * d ≤ 65536 * 4294967295
      item_fits b f = omega (arith, clock_tick w w.item e, ticks_fit stts w.item p q b f.few h)

      pub part_fits : Bytes stts → Clocked stts → s - w.sample ≤ n → w.tick + (s - w.sample) * d ≤ 65536 * 4294967295
      part_fits b f k = let r : (s - w.sample) * d ≤ n * d = mul-le-mul_right d k in omega (arith, item_fits b f)

  -- back from its answer
  module _ (i s : ℕ) where
    pub turned_at : (t : MediaTicks) → At t ≡ turn_of stts i s → (s ≤ timed_to stts (i + 1)) × (t ≡ start_tick stts s)
    unfolding turn_of
    turned_at t e =
        ⊎_elim (λ x. let z : ◌≡◌ {A = ℕ} 0 1 = let y = x.1 in cc in absurd (omega arith)) (λ x. (x.0, let y = x.1 in cc)) (lt_ways _ _ _ _ _ (sym e))

    pub turned_behind : (c : Clock) → Behind c ≡ turn_of stts i s → (timed_to stts (i + 1) < s) × (c ≡ clock_at stts (i + 1))
    unfolding turn_of
    turned_behind c e =
        ⊎_elim (λ x. (x.0, let y = x.1 in cc)) (λ x. let z : ◌≡◌ {A = ℕ} 0 1 = let y = x.1 in cc in absurd (omega arith)) (lt_ways _ _ _ _ _ (sym e))
