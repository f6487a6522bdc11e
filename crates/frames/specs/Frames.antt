-- Frames in storage form: a header byte, and then as many data bytes as its type says. A part is the good frames at its front, one after
-- the other, and the rest.
use Rattle.std.specs.Prelude.{ℕ, zero, suc, ◌+◌, ◌/◌, ◌%◌, ◌≡◌, Bool, true, List, [], ◌∷◌, ◌++◌, length, get_or, take, drop}
use Rattle.wire.specs.Tests.{pick}
use Rattle.wire.specs.Clauses.{is_eq, is_lt, is_le, every}
use Rattle.frames.specs.declared.codec.Codec.{Codec}
use Rattle.frames.specs.Codecs.{NONE, data_bytes}

-- the header of the frame at the front
abbrev pub header_of : List ℕ → ℕ
header_of xs = get_or xs 0 0

-- a header has a padding bit, four bits of type, a quality bit and two padding bits
unfoldable pub type_of : List ℕ → ℕ
type_of xs = header_of xs / 8 % 16

-- header and data
unfoldable pub frame_size : Codec → List ℕ → ℕ
frame_size k xs = 1 + data_bytes k (type_of xs)

-- a good frame stands at the front, and not one "with a padding bit set, an unknown type or cut short"
unfoldable pub good : Codec → List ℕ → Bool
good k xs =
    every
    (is_le 1 (length xs)
    ∷ is_eq (header_of xs / 128) 0
    ∷ is_eq (header_of xs % 4) 0
    ∷ is_lt (data_bytes k (type_of xs)) NONE
    ∷ is_le (frame_size k xs) (length xs)
    ∷ [])

-- the good frames from the front on, at most n of them
unfoldable pub frames_to : ℕ → Codec → List ℕ → List (List ℕ)
frames_to zero k xs = []
frames_to (suc n) k xs = pick (good k xs) (take (frame_size k xs) xs ∷ frames_to n k (drop (frame_size k xs) xs)) []

-- all of them: no more than there are bytes
unfoldable pub frames : Codec → List ℕ → List (List ℕ)
frames k xs = frames_to (length xs) k xs

-- frames one after the other
unfoldable pub joined : List (List ℕ) → List ℕ
joined [] = []
joined (f ∷ l) = f ++ joined l

-- the bytes past the last good frame, which start with a bad one where there are any
unfoldable pub rest : Codec → List ℕ → List ℕ
rest k xs = drop (length (joined (frames k xs))) xs

-- each of them is one good frame, and no byte more
pub data EachGood (k : Codec) : List (List ℕ) → Type 0 where
  none : EachGood k []
  some : {f : List ℕ} {l : List (List ℕ)} → good k f ≡ true → frame_size k f ≡ length f → EachGood k l → EachGood k (f ∷ l)
