-- What a step of the walk with its clock tells. Assumes nothing.
use Prim.Native.Nat.{ℕ, ◌+◌, ◌≤◌, ◌<◌}
use native.Mathlib.Omega.{arith}
use native.Mathlib.Nat.{eq-or-lt_of_le}
use mathlib.Core.Path.{◌≡◌, sym, ap}
use mathlib.Core.List.{List}
use mathlib.Core.Logic.{⊎_elim}
use Rattle.wire.proofs.Tests.{lt_ways}
use Rattle.sample_tables.specs.Tables.{items}
use Rattle.sample_tables.specs.Times.{timed_to, tick_at}
use Rattle.sample_tables.specs.Chunks.{first_sample, chunk_at}
use Rattle.sample_tables.specs.declared.chunk.Chunk.{Chunk}
use Rattle.sample_tables.specs.declared.time.MediaTicks.{MediaTicks}
use Rattle.sample_tables.proofs.Chunks.{first_mono}
use Rattle.sample_times.specs.declared.walk.TimedWalk.{TimedWalk}
use Rattle.sample_times.specs.declared.walk.TimedStep.{TimedStep}
use Rattle.sample_times.specs.declared.walk.TimedStep.TheVariants.{Found, Ticking, End}
use Rattle.sample_times.specs.Clocks.{start_tick}
use Rattle.sample_times.specs.Walks.{Playable, timed_at, Timed, timed_step}
use Rattle.sample_times.proofs.Ticks.{timed_mono}
use Rattle.sample_times.proofs.Walks.{timed_is, first_timed}

-- what a step that found a chunk tells, and one that moved the clock
pub record Sounded (stts stsc stco : List ℕ) (i k : ℕ) (c : Chunk) (t : MediaTicks) (w : TimedWalk) : Type 0 where
  pub inside : k < items stco
  pub found : c ≡ chunk_at stsc stco k
  pub nth : c.nth ≡ k
  pub tick : t.0 ≡ tick_at stts (first_sample stsc k)
  pub chunk : w.walk.chunk ≡ k + 1
  pub item : w.clock.item ≡ i
  pub walk : Timed stts stsc w

pub record Ticked (stts stsc stco : List ℕ) (i k : ℕ) (w : TimedWalk) : Type 0 where
  pub inside : k < items stco
  pub more : i < items stts
  pub chunk : w.walk.chunk ≡ k
  pub item : w.clock.item ≡ i + 1
  pub walk : Timed stts stsc w

chunk_number : (stsc stco : List ℕ) (k : ℕ) (c : Chunk) → c ≡ chunk_at stsc stco k → c.nth ≡ k
unfolding chunk_at
chunk_number stsc stco k c e = ap (λ (d : Chunk). d.nth) e

-- the tick of the chunk of a number
pub tick_of : (stts stsc : List ℕ) (j k : ℕ) (t : MediaTicks) → t.0 ≡ tick_at stts (first_sample stsc k) → k ≡ j → t.0 ≡ tick_at stts (first_sample stsc j)
tick_of stts stsc j k t e h = rw (← h) e

module _ (stts stsc stco : List ℕ) (a : Playable stts stsc stco) (w : TimedWalk) (h : Timed stts stsc w) where
  told : {P : Type 0} (r : TimedStep)
      → r ≡ timed_step stts stsc stco w.clock.item w.walk.chunk
      → (w.walk.chunk < items stco → timed_to stts (w.clock.item + 1) < first_sample stsc w.walk.chunk → r ≡ Ticking (timed_at stts stsc (w.clock.item + 1) w.walk.chunk) → P)
      → (w.walk.chunk < items stco → r ≡ Found (chunk_at stsc stco w.walk.chunk) (start_tick stts (first_sample stsc w.walk.chunk)) (timed_at stts stsc w.clock.item (w.walk.chunk + 1)) → P)
      → (items stco ≤ w.walk.chunk → r ≡ End → P)
      → P
  unfolding timed_step
  told r e f g d =
      ⊎_elim (λ x. ⊎_elim (λ y. f x.0 y.0 (sym y.1)) (λ y. g x.0 (sym y.1)) (lt_ways _ _ _ _ _ x.1)) (λ x. d x.0 (sym x.1)) (lt_ways _ _ _ _ _ (sym e))

  pub sounded : (c : Chunk) (t : MediaTicks) (v : TimedWalk) → Found c t v ≡ timed_step stts stsc stco w.clock.item w.walk.chunk → Sounded stts stsc stco w.clock.item w.walk.chunk c t v
  sounded c t v e =
      told (Found c t v) e (λ k l x. let z : ◌≡◌ {A = ℕ} 0 1 = cc in absurd (omega arith))
      (λ k x.
      let f : c ≡ chunk_at stsc stco w.walk.chunk = cc in
      let u : t ≡ start_tick stts (first_sample stsc w.walk.chunk) = cc in
      let i = timed_is stts stsc stco a v w.clock.item (w.walk.chunk + 1) (cc) h.item (omega (arith, h.before, first_mono stsc w.walk.chunk (w.walk.chunk + 1) (omega arith))) in
      record { inside = k; found = f; nth = chunk_number stsc stco _ c f; tick = ap (λ (m : MediaTicks). m.0) u; chunk = i.0; item = i.1; walk = i.2 })
      (λ k x. let z : ◌≡◌ {A = ℕ} 0 1 = cc in absurd (omega arith))

  -- no chunk starts past the last item
  early : w.walk.chunk < items stco → timed_to stts (w.clock.item + 1) < first_sample stsc w.walk.chunk → w.clock.item < items stts
  early k l =
      ⊎_elim (λ e. absurd (omega (arith, timed_mono stts (items stts) (w.clock.item + 1) (omega arith), first_timed stts stsc stco a w.walk.chunk k))) (λ m. m) (eq-or-lt_of_le h.item)

  pub ticked : (v : TimedWalk) → Ticking v ≡ timed_step stts stsc stco w.clock.item w.walk.chunk → Ticked stts stsc stco w.clock.item w.walk.chunk v
  ticked v e =
      told (Ticking v) e
      (λ k l x.
      let m = early k l in
      let i = timed_is stts stsc stco a v (w.clock.item + 1) w.walk.chunk (cc) (omega arith) (omega arith) in
      record { inside = k; more = m; chunk = i.0; item = i.1; walk = i.2 })
      (λ k x. let z : ◌≡◌ {A = ℕ} 0 1 = cc in absurd (omega arith))
      (λ k x. let z : ◌≡◌ {A = ℕ} 0 1 = cc in absurd (omega arith))

  pub ended : End ≡ timed_step stts stsc stco w.clock.item w.walk.chunk → items stco ≤ w.walk.chunk
  ended e =
      told End e (λ k l x. let z : ◌≡◌ {A = ℕ} 0 1 = cc in absurd (omega arith)) (λ k x. let z : ◌≡◌ {A = ℕ} 0 1 = cc in absurd (omega arith)) (λ k x. k)
