-- Laws of the walk with its clock. Assumes nothing.
use Prim.Native.Nat.{ℕ, ◌+◌, ◌≤◌, ◌<◌}
use native.Mathlib.Omega.{arith}
use mathlib.Core.Path.{◌≡◌, refl, sym, ap, ◌∙◌}
use mathlib.Core.List.{List}
use Rattle.wire.proofs.Tests.{lt_yea, lt_nay}
use Rattle.sample_tables.specs.Tables.{items}
use Rattle.sample_tables.specs.Times.{timed_to, timed}
use Rattle.sample_tables.specs.Chunks.{first_sample, walk_at, step_of}
use Rattle.sample_tables.specs.Rules.{Six, Seven}
use Rattle.sample_tables.specs.declared.chunk.Chunk.{Chunk}
use Rattle.sample_tables.specs.declared.chunk.ChunkWalk.{ChunkWalk}
use Rattle.std.specs.declared.option.Option.TheVariants.{Some, None}
use Rattle.sample_tables.specs.declared.time.MediaTicks.{MediaTicks}
use Rattle.sample_tables.proofs.Times.{timed_none}
use Rattle.sample_tables.proofs.Chunks.{first_none, first_mono, walk_start_lem, walk_chunk, walk_sample}
use Rattle.sample_tables.proofs.Steps.{found_is, end_is}
use Rattle.sample_times.specs.declared.clock.Clock.{Clock}
use Rattle.sample_times.specs.declared.clock.Turned.TheVariants.{At, Behind}
use Rattle.sample_times.specs.declared.walk.TimedWalk.{TimedWalk}
use Rattle.sample_times.specs.declared.walk.TimedStep.TheVariants.{Found, Ticking, End}
use Rattle.sample_times.specs.Clocks.{clock_at, turn_of}
use Rattle.sample_times.specs.Walks.{Playable, timed_start, timed_at, Timed, timed_step}
use Rattle.sample_times.proofs.Clocks.{clock_start_lem, clock_item, turned_at, turned_behind}

-- rules 6 and 7 give what the walk asks
pub playable : (stts stsc stsz stco : List ℕ) → Six stts stsc stsz stco → Seven stts stsc stsz stco → Playable stts stsc stco
playable stts stsc stsz stco six s =
    record { clock = record { times = six.times; few = omega (arith, s.timely, s.few) }; walk = s.walk; total = s.total ∙ sym s.timely }

module _ (stts stsc stco : List ℕ) (a : Playable stts stsc stco) where
  -- a walk that is one of the walks, with its clock not past the chunk
  pub timed_is : (w : TimedWalk) (i k : ℕ) → w ≡ timed_at stts stsc i k → i ≤ items stts → timed_to stts i ≤ first_sample stsc k → (w.walk.chunk ≡ k) × (w.clock.item ≡ i) × Timed stts stsc w
  timed_is w i k e h l =
      let c : w.walk.chunk ≡ k = walk_chunk stsc w.walk k (ap (λ (v : TimedWalk). v.walk) e) in
      let j : w.clock.item ≡ i = clock_item stts w.clock i (ap (λ (v : TimedWalk). v.clock) e) in
      (c, j, record { is = e ∙ ap (λ x. timed_at stts stsc i x) (sym c) ∙ ap (λ x. timed_at stts stsc x w.walk.chunk) (sym j); item = rw j h; before = rw (c, j) l })

  pub start_is : (w : TimedWalk) → w ≡ timed_start → (w.walk.chunk ≡ 0) × (w.clock.item ≡ 0) × Timed stts stsc w
  start_is w e =
      timed_is w 0 0 (e ∙ rw (← walk_start_lem stsc a.walk.rising, ← clock_start_lem stts)) (omega arith) (omega (arith, timed_none stts, first_none stsc))

  -- its chunk's first sample is one of the track's, or the end
  pub first_timed : (k : ℕ) → k < items stco → first_sample stsc k ≤ timed stts
  first_timed k h = omega (arith, a.total, first_mono stsc k (items stco) (omega arith))

  -- ---- a step of a walk
  module _ (w : TimedWalk) (h : Timed stts stsc w) where
    pub walk_part : w.walk ≡ walk_at stsc w.walk.chunk
    walk_part = ap (λ (v : TimedWalk). v.walk) h.is

    pub clock_part : w.clock ≡ clock_at stts w.clock.item
    clock_part = ap (λ (v : TimedWalk). v.clock) h.is

    pub sample_part : w.walk.sample ≡ first_sample stsc w.walk.chunk
    sample_part = walk_sample stsc w.walk w.walk.chunk walk_part

    pub answer_end : None ≡ step_of stsc stco w.walk.chunk → End ≡ timed_step stts stsc stco w.clock.item w.walk.chunk
    unfolding timed_step
    answer_end e = lt_nay _ _ _ _ _ (end_is stsc stco _ e) refl

    module _ (c : Chunk) (n : ChunkWalk) (f : Some (c, n) ≡ step_of stsc stco w.walk.chunk) where
      -- the clock may be asked for the chunk's first sample
      pub asked : (timed_to stts w.clock.item ≤ w.walk.sample) × (w.walk.sample ≤ timed stts)
      asked =
          let s = sample_part in
          (omega (arith, h.before), omega (arith, first_timed w.walk.chunk (found_is stsc stco _ c n f).inside))

      pub answer_found : (t : MediaTicks) → At t ≡ turn_of stts w.clock.item w.walk.sample → Found c t (record { walk = n; clock = w.clock }) ≡ timed_step stts stsc stco w.clock.item w.walk.chunk
      unfolding timed_step
      answer_found t e =
          let g = found_is stsc stco _ c n f in
          let u = turned_at stts _ _ t (rw sample_part at e) in
          let p = g.found in
          let q = u.1 in
          let o = clock_part in
          let r : n ≡ walk_at stsc (w.walk.chunk + 1) = g.walk ∙ ap (walk_at stsc) g.moved in
          lt_yea _ _ _ _ _ g.inside (lt_nay _ _ _ _ _ u.0 (cc))

      pub answer_ticking : (d : Clock) → Behind d ≡ turn_of stts w.clock.item w.walk.sample → Ticking (record { walk = w.walk; clock = d }) ≡ timed_step stts stsc stco w.clock.item w.walk.chunk
      unfolding timed_step
      answer_ticking d e =
          let u = turned_behind stts _ _ d (rw sample_part at e) in
          let q = u.1 in
          let o = walk_part in
          lt_yea _ _ _ _ _ (found_is stsc stco _ c n f).inside (lt_yea _ _ _ _ _ u.0 (cc))
