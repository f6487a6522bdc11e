-- The chunks of a track, by number from 0: chunk k here is chunk k + 1 of the paper.
use Rattle.std.specs.Prelude.{ℕ, ◌+◌, ◌≤◌, ◌<◌, ◌≡◌, List}
use Rattle.wire.specs.Tests.{if_lt}
use Rattle.wire.specs.Sums.{sum_to}
use Rattle.sample_tables.specs.Tables.{items, field, Table}
use Rattle.sample_tables.specs.Sizes.{bytes_from}
use Rattle.sample_tables.specs.Runs.{per_chunk, description, run_of, Rising}
use Rattle.sample_tables.specs.declared.chunk.Chunk.{Chunk}
use Rattle.sample_tables.specs.declared.chunk.Extent.{Extent}
use Rattle.sample_tables.specs.declared.chunk.ChunkWalk.{ChunkWalk}
use Rattle.std.specs.declared.option.Option.{Option}
use Rattle.std.specs.declared.option.Option.TheVariants.{Some, None}

-- what a chunk has of its run
unfoldable pub samples_in : List ℕ → ℕ → ℕ
samples_in stsc k = per_chunk stsc (run_of stsc k)

unfoldable pub description_of : List ℕ → ℕ → ℕ
description_of stsc k = description stsc (run_of stsc k)

-- the number of its first sample, from 0: the samples of all chunks before it
unfoldable pub first_sample : List ℕ → ℕ → ℕ
first_sample stsc k = sum_to (samples_in stsc) k

-- "samples over all chunks"
abbrev pub samples_over : List ℕ → ℕ → ℕ
samples_over stsc chunks = first_sample stsc chunks

abbrev pub offset_at : List ℕ → ℕ → ℕ
offset_at stco k = field 4 0 stco k

unfoldable pub chunk_at : List ℕ → List ℕ → ℕ → Chunk
chunk_at stsc stco k =
    record {
      nth = k;
      offset = offset_at stco k;
      first = first_sample stsc k;
      samples = samples_in stsc k;
      description = description_of stsc k;
    }

-- where a chunk lies in the file: its samples laid end to end from its offset
unfoldable pub extent_of : List ℕ → Chunk → Extent
extent_of stsz c = record { offset = c.offset; bytes = bytes_from stsz c.first c.samples }

abbrev pub extent_at : (stsc stsz stco : List ℕ) → ℕ → Extent
extent_at stsc stsz stco k = extent_of stsz (chunk_at stsc stco k)

-- the walk at its start, before chunk k, and its step
abbrev pub walk_start : ChunkWalk
walk_start = record { chunk = 0; run = 0; sample = 0 }

unfoldable pub walk_at : List ℕ → ℕ → ChunkWalk
walk_at stsc k = record { chunk = k; run = run_of stsc k; sample = first_sample stsc k }

unfoldable pub step_of : List ℕ → List ℕ → ℕ → Option (Chunk × ChunkWalk)
step_of stsc stco k = if_lt k (items stco) (Some (chunk_at stsc stco k, walk_at stsc (k + 1))) None

-- what the walk asks of its tables
pub record Walkable (stsc stco : List ℕ) : Type 0 where
  pub runs : Table 12 stsc
  pub offsets : Table 4 stco
  pub rising : Rising stsc
  pub some : 0 < items stco → 0 < items stsc

-- of so many chunks those from a to b are the ones of run i
pub record Covers (stsc : List ℕ) (chunks i a b : ℕ) : Type 0 where
  pub inside : i < items stsc
  pub ordered : a ≤ b
  pub within : b ≤ chunks
  pub own : (j : ℕ) → a ≤ j → j < b → i ≡ run_of stsc j
