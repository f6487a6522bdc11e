-- Where the samples of a track lie: those of one chunk after the other.
use Rattle.std.specs.Prelude.{ℕ, zero, suc, ◌+◌, List, [], ◌∷◌, ◌++◌}
use Rattle.sample_tables.specs.Tables.{items}
use Rattle.sample_tables.specs.Sizes.{size_at, bytes_from}
use Rattle.sample_tables.specs.Chunks.{chunk_at}
use Rattle.sample_tables.specs.declared.chunk.Chunk.{Chunk}
use Rattle.sample_walk.specs.declared.walk.Sample.{Sample}

-- f 0, and then .. f (n - 1)
unfoldable pub join_to : {A : Type 0} → (ℕ → List A) → ℕ → List A
join_to f zero = []
join_to f (suc n) = join_to f n ++ f n

-- sample j of a chunk, from 0: past the bytes of the chunk's samples before it
abbrev pub sample_in : List ℕ → Chunk → ℕ → Sample
sample_in stsz c j =
    record { place = c.offset + bytes_from stsz c.first j; bytes = size_at stsz (c.first + j); description = c.description }

unfoldable pub chunk_samples : List ℕ → Chunk → List Sample
chunk_samples stsz c = join_to (λ j. sample_in stsz c j ∷ []) c.samples

unfoldable pub samples_at : (stsc stsz stco : List ℕ) → List Sample
samples_at stsc stsz stco = join_to (λ k. chunk_samples stsz (chunk_at stsc stco k)) (items stco)
