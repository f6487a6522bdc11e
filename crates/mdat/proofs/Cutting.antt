-- A track's samples are those of one chunk after the other. Assumes nothing.
use Prim.Native.Nat.{ℕ}
use mathlib.Core.Path.{◌≡◌, ◌∙◌}
use mathlib.Core.List.{List, [], ◌∷◌}
use Rattle.sample_tables.specs.Tables.{items}
use Rattle.sample_tables.specs.Chunks.{chunk_at}
use Rattle.sample_tables.specs.declared.chunk.Chunk.{Chunk}
use Rattle.sample_walk.specs.Samples.{join_to, sample_in, chunk_samples, samples_at}
use Rattle.sample_walk.proofs.Joins.{join_same, join_map}
use Rattle.mdat.specs.Samples.{sample_bytes, samples_of}

-- those of a chunk
abbrev pub chunk_cut : (file stsz : List ℕ) → Chunk → List (List ℕ)
chunk_cut file stsz c = join_to (λ j. sample_bytes file (sample_in stsz c j) ∷ []) c.samples

pub samples_cut : (file stsc stsz stco : List ℕ) → samples_of file stsc stsz stco ≡ join_to (λ k. chunk_cut file stsz (chunk_at stsc stco k)) (items stco)
unfolding samples_of samples_at chunk_samples
samples_cut file stsc stsz stco =
    join_map (sample_bytes file) (λ k. chunk_samples stsz (chunk_at stsc stco k)) (items stco)
    ∙ join_same _ _ (items stco)
    (λ k h. join_map (sample_bytes file) (λ j. sample_in stsz (chunk_at stsc stco k) j ∷ []) (chunk_at stsc stco k).samples)
