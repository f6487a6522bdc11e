-- "a chunk offset changes by as much as its `mdat` moved": from a file with boxes l to one with boxes m and the same payloads.
use Rattle.std.specs.Prelude.{ℕ, ◌<◌, ◌≡◌, List, length}
use Rattle.boxes.specs.Box.{Box, head}
use Rattle.sample_tables.specs.Tables.{items}
use Rattle.sample_tables.specs.Chunks.{offset_at}
use Rattle.mdat.specs.Payloads.{Spot, nowhere, spot, resolve, place_of}

abbrev pub put_at : List Box → ℕ → Spot → ℕ
put_at m o nowhere = o
put_at m o (spot j i) = place_of m j i

-- as far into the same payload; an offset in no payload stays
unfoldable pub relocate : (l m : List Box) → ℕ → ℕ
relocate l m o = put_at m o (resolve l o)

-- a table of chunk offsets, and the table with each offset relocated
pub record Relocated (l m : List Box) (stco stco' : List ℕ) : Type 0 where
  pub same : items stco' ≡ items stco
  pub offsets : (k : ℕ) → k < items stco → offset_at stco' k ≡ relocate l m (offset_at stco k)

-- two boxes of the same layout
pub record Alike (x y : Box) : Type 0 where
  pub head : head x ≡ head y
  pub code : x.code ≡ y.code
  pub long : length x.body ≡ length y.body
