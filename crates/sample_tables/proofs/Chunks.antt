-- Laws of the walk by chunk. Assumes nothing.
use Prim.Native.Nat.{ℕ, ◌+◌, ◌*◌, ◌≤◌, ◌<◌}
use native.Mathlib.Omega.{arith}
use mathlib.Core.Path.{◌≡◌, sym, ap, ◌∙◌}
use mathlib.Core.List.{List}
use Rattle.wire.specs.Numbers.{Bytes}
use Rattle.wire.proofs.Sums.{sum_none, sum_more, sum_mono, sum_at_most}
use Rattle.wire.proofs.Numbers.{word_most}
use Rattle.sample_tables.specs.Tables.{items}
use Rattle.sample_tables.specs.Runs.{run_of, Rising}
use Rattle.sample_tables.specs.Chunks.{samples_in, first_sample, walk_start, walk_at, Walkable}
use Rattle.sample_tables.specs.declared.chunk.ChunkWalk.{ChunkWalk}
use Rattle.sample_tables.proofs.LastRun.{run_first, run_inside}

-- ---- the first sample of a chunk

module _ (stsc : List ℕ) where
  pub first_none : 0 ≡ first_sample stsc 0
  unfolding first_sample
  first_none = sym (sum_none (samples_in stsc))

  pub first_more : (k : ℕ) → first_sample stsc (k + 1) ≡ first_sample stsc k + samples_in stsc k
  unfolding first_sample
  first_more k = sum_more (samples_in stsc) k

  pub first_mono : (k n : ℕ) → k ≤ n → first_sample stsc k ≤ first_sample stsc n
  unfolding first_sample
  first_mono k n h = sum_mono (samples_in stsc) k n h

  pub first_fits : Bytes stsc → (k : ℕ) → first_sample stsc k ≤ k * 4294967295
  unfolding first_sample samples_in
  first_fits b k = sum_at_most (samples_in stsc) 4294967295 k (λ i. word_most _ _ b)

  -- ---- the walk

  pub walk_start_lem : Rising stsc → walk_start ≡ walk_at stsc 0
  unfolding walk_at
  walk_start_lem rs = rw (← first_none, ← run_first stsc rs)

  -- a walk knows its chunk
  module _ (w : ChunkWalk) (k : ℕ) (e : w ≡ walk_at stsc k) where
    pub walk_chunk : w.chunk ≡ k
    unfolding walk_at
    walk_chunk = ap (λ (v : ChunkWalk). v.chunk) e

    pub walk_run : w.run ≡ run_of stsc k
    unfolding walk_at
    walk_run = ap (λ (v : ChunkWalk). v.run) e

    pub walk_sample : w.sample ≡ first_sample stsc k
    unfolding walk_at
    walk_sample = ap (λ (v : ChunkWalk). v.sample) e

    pub walk_is : w ≡ walk_at stsc w.chunk
    walk_is = e ∙ ap (walk_at stsc) (sym walk_chunk)

    pub walk_room : Bytes stsc → w.sample ≤ k * 4294967295
    walk_room b = omega (arith, walk_sample, first_fits b k)

    -- before a chunk it stands on a run
    pub walk_inside : (stco : List ℕ) → Walkable stsc stco → k < items stco → w.run < items stsc
    walk_inside stco a h = run_inside stsc a.rising (a.some (omega arith)) k w.run walk_run
