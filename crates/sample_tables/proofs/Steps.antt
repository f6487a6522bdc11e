-- Laws of a step of the walk by chunk. Assumes nothing.
use Prim.Native.Nat.{ℕ, ◌+◌, ◌≤◌, ◌<◌}
use native.Mathlib.Omega.{arith}
use mathlib.Core.Path.{◌≡◌, refl, sym, ap}
use mathlib.Core.List.{List}
use mathlib.Core.Logic.{⊎_elim}
use Rattle.wire.proofs.Tests.{lt_yea, lt_nay, lt_ways}
use Rattle.sample_tables.specs.Tables.{items}
use Rattle.sample_tables.specs.Runs.{per_chunk, description, run_of}
use Rattle.sample_tables.specs.Chunks.{samples_in, description_of, offset_at, chunk_at, walk_at, step_of}
use Rattle.sample_tables.specs.declared.chunk.Chunk.{Chunk}
use Rattle.sample_tables.specs.declared.chunk.ChunkWalk.{ChunkWalk}
use Rattle.std.specs.declared.option.Option.TheVariants.{Some, None}
use Rattle.sample_tables.proofs.Chunks.{first_more, walk_chunk, walk_run, walk_sample, walk_is}

-- what a step that found a chunk tells
pub record Stepped (stsc stco : List ℕ) (k : ℕ) (c : Chunk) (w : ChunkWalk) : Type 0 where
  pub inside : k < items stco
  pub found : c ≡ chunk_at stsc stco k
  pub moved : w.chunk ≡ k + 1
  pub walk : w ≡ walk_at stsc w.chunk

module _ (stsc stco : List ℕ) where
  pub step_end : (k : ℕ) → items stco ≤ k → None ≡ step_of stsc stco k
  unfolding step_of
  step_end k h = lt_nay _ _ _ _ _ h refl

  pub step_found : (w : ChunkWalk) {offset samples entry run : ℕ}
      → w ≡ walk_at stsc w.chunk
      → samples ≡ per_chunk stsc w.run
      → offset ≡ offset_at stco w.chunk
      → entry ≡ description stsc w.run
      → run ≡ run_of stsc (w.chunk + 1)
      → w.chunk < items stco
      → Some (
        record { nth = w.chunk; offset = offset; first = w.sample; samples = samples; description = entry },
        record { chunk = w.chunk + 1; run = run; sample = w.sample + samples },
      )
      ≡ step_of stsc stco w.chunk
  unfolding step_of chunk_at walk_at samples_in description_of
  step_found w e s o d r h =
      let f = first_more stsc w.chunk in
      let p = walk_run stsc w w.chunk e in
      let q = walk_sample stsc w w.chunk e in
      lt_yea _ _ _ _ _ h (cc)

  -- back from the answer
  module _ (k : ℕ) where
    pub found_is : (c : Chunk) (w : ChunkWalk) → Some (c, w) ≡ step_of stsc stco k → Stepped stsc stco k c w
    unfolding step_of
    found_is c w e =
        ⊎_elim
        (λ x.
        let y = x.1 in
        let p : ◌≡◌ {A = Chunk × ChunkWalk} (c, w) (chunk_at stsc stco k, walk_at stsc (k + 1)) = cc in
        let n : w ≡ walk_at stsc (k + 1) = ap (λ q. q.1) p in
        record { inside = x.0; found = ap (λ q. q.0) p; moved = walk_chunk stsc w (k + 1) n; walk = walk_is stsc w (k + 1) n })
        (λ x. let y = x.1 in let z : ◌≡◌ {A = ℕ} 0 1 = cc in absurd (omega arith))
        (lt_ways _ _ _ _ _ (sym e))

    pub end_is : None ≡ step_of stsc stco k → items stco ≤ k
    unfolding step_of
    end_is e = ⊎_elim (λ x. let y = x.1 in let z : ◌≡◌ {A = ℕ} 0 1 = cc in absurd (omega arith)) (λ x. x.0) (lt_ways _ _ _ _ _ (sym e))
