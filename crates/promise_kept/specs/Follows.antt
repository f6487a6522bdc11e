-- "In every edit a chunk offset changes by as much as its mdat moved."
use Rattle.std.specs.Prelude.{ℕ, ◌+◌, ◌-◌, ◌≤◌, ◌<◌, ◌≡◌, List, length}
use Rattle.codes.specs.Codes.{MDAT, STCO}
use Rattle.boxes.specs.Box.{Box}
use Rattle.boxes.specs.Boxes.{boxes}
use Rattle.boxes.specs.Seek.{count, nth, start_in}
use Rattle.sample_tables.specs.Tables.{items}
use Rattle.sample_tables.specs.Chunks.{offset_at}
use Rattle.movie.specs.Movie.{track, sample_table}

-- from a file with the boxes l to one with the boxes m: offset o is in the payload of `mdat` j, from 0, and offset p is as far
-- from the start of that payload there as o was here
pub record Follows (l m : List Box) (o p : ℕ) : Type 0 where
  pub j : ℕ
  pub which : j < count MDAT l
  pub start : start_in MDAT j l ≤ o
  pub end : o ≤ start_in MDAT j l + length (nth MDAT j l)
  pub there : start_in MDAT j m ≤ p
  pub moved : p - start_in MDAT j m ≡ o - start_in MDAT j l

-- the chunk offsets of track t, from 0
abbrev pub chunk_offsets : List ℕ → ℕ → List ℕ
chunk_offsets xs t = sample_table STCO (track xs t)

-- as many in every track, and each so
pub record AllFollow (xs ys : List ℕ) : Type 0 where
  pub same : (t : ℕ) → items (chunk_offsets ys t) ≡ items (chunk_offsets xs t)
  pub each : (t k : ℕ) → k < items (chunk_offsets xs t) → Follows (boxes xs) (boxes ys) (offset_at (chunk_offsets xs t) k) (offset_at (chunk_offsets ys t) k)
