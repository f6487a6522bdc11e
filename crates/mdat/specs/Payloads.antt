-- Where an edit finds bytes of media: which `mdat` of the list of top-level boxes, and how far into the payload.
use Rattle.std.specs.Prelude.{ℕ, suc, ◌+◌, ◌-◌, Bool, false, List, [], ◌∷◌, length, get_or}
use Rattle.wire.specs.Tests.{if_eq, if_lt}
use Rattle.wire.specs.Clauses.{is_le}
use Rattle.codes.specs.Codes.{MDAT}
use Rattle.boxes.specs.Box.{Box, head, size}
use Rattle.boxes.specs.Seek.{by_number}

-- the payloads of the `mdat` boxes, in order
unfoldable pub mdats : List Box → List (List ℕ)
mdats [] = []
mdats (x ∷ l) = if_eq x.code MDAT (x.body ∷ mdats l) (mdats l)

-- in no payload, or in payload j (from 0), i bytes into it
pub data Spot : Type 0 where
  nowhere : Spot
  spot : (j i : ℕ) → Spot

-- the spot o bytes into one box: in its payload, or at the end of it
unfoldable pub in_box : Box → ℕ → Spot
in_box x o = if_eq x.code MDAT (if_lt o (head x) nowhere (spot 0 (o - head x))) nowhere

abbrev pub next_payload : Spot → Spot
next_payload nowhere = nowhere
next_payload (spot j i) = spot (suc j) i

-- a spot of the boxes after x
unfoldable pub past : Box → Spot → Spot
past x s = if_eq x.code MDAT (next_payload s) s

-- the payload that place o is in, or at the end of: a place up to a box's end is judged by that box
unfoldable pub resolve : List Box → ℕ → Spot
resolve [] o = nowhere
resolve (x ∷ l) o = if_lt (size x) o (past x (resolve l (o - size x))) (in_box x o)

-- the place that is i bytes into payload j
unfoldable pub place_of : List Box → ℕ → ℕ → ℕ
place_of [] j i = 0
place_of (x ∷ l) j i =
    if_eq x.code MDAT
    (by_number j (head x + i) (λ k. size x + place_of l k i))
    (size x + place_of l j i)

-- n bytes from a spot on don't pass the end of its payload
abbrev pub fits : List (List ℕ) → ℕ → Spot → Bool
fits ms n nowhere = false
fits ms n (spot j i) = is_le (i + n) (length (get_or ms j []))

-- n bytes from place o on lie inside one payload
unfoldable pub in_at : List Box → ℕ → ℕ → Bool
in_at l o n = fits (mdats l) n (resolve l o)
