-- Rule 8: "Each chunk, its samples laid end to end from its offset, lies inside the payload of one top-level mdat."
use Rattle.std.specs.Prelude.{ℕ, ◌+◌, ◌≤◌, ◌≡◌, Bool, true, false, List, [], ◌∷◌}
use Rattle.wire.specs.Tests.{pick}
use Rattle.wire.specs.Clauses.{is_eq, is_le, every}
use Rattle.wire.specs.Sums.{all_to}
use Rattle.codes.specs.Codes.{MDAT}
use Rattle.boxes.specs.Box.{Box, head, size}
use Rattle.sample_tables.specs.Tables.{items}
use Rattle.sample_tables.specs.Sizes.{sample_count, Sizes}
use Rattle.sample_tables.specs.Chunks.{samples_over, extent_at, Walkable}

-- one of the boxes, which stand from place p on, is an `mdat` whose payload has the n bytes from place o on
unfoldable pub lies : List Box → (p o n : ℕ) → Bool
lies [] p o n = false
lies (x ∷ l) p o n = pick (every (is_eq x.code MDAT ∷ is_le (p + head x) o ∷ is_le (o + n) (p + size x) ∷ [])) true (lies l (p + size x) o n)

-- of chunk k of a track, in a file with the boxes l
unfoldable pub chunk_in : List Box → (stsc stsz stco : List ℕ) → ℕ → Bool
chunk_in l stsc stsz stco k = lies l 0 (extent_at stsc stsz stco k).offset (extent_at stsc stsz stco k).bytes

-- of the first n chunks
unfoldable pub chunks_in : List Box → (stsc stsz stco : List ℕ) → ℕ → Bool
chunks_in l stsc stsz stco n = all_to (chunk_in l stsc stsz stco) n

abbrev pub chunks_lie : List Box → (stsc stsz stco : List ℕ) → Bool
chunks_lie l stsc stsz stco = chunks_in l stsc stsz stco (items stco)

-- what a track's tables must be for it to be asked: rules 6 and 7 give this
pub record Ready (stsc stsz stco : List ℕ) : Type 0 where
  pub walk : Walkable stsc stco
  pub sizes : Sizes stsz
  pub few : sample_count stsz ≤ 65536
  pub total : samples_over stsc (items stco) ≡ sample_count stsz

-- where the chunks before one lie inside, those before another do too
abbrev pub Goes : List Box → (stsc stsz stco : List ℕ) → (from end : ℕ) → Type 0
Goes l stsc stsz stco from end = chunks_in l stsc stsz stco from ≡ true → chunks_in l stsc stsz stco end ≡ true
