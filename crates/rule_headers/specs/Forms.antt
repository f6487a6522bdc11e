-- Rule 4 of one box.
use Rattle.std.specs.Prelude.{ℕ, ◌%◌, Bool, true, List, [], ◌∷◌, length, get_or}
use Rattle.wire.specs.Tests.{if_eq}
use Rattle.wire.specs.Numbers.{word}
use Rattle.wire.specs.Clauses.{is_eq, is_lt, is_le, every}
use Rattle.codes.specs.Codes.{FTYP, MOOV, MVHD, TRAK, TKHD, MDIA, MDHD, HDLR}
use Rattle.boxes.specs.Containers.{FILE}

-- "major brand, minor version, 1 to 16 compatible brands, nothing more", of four bytes each
unfoldable pub brands_form : List ℕ → Bool
brands_form b = every (is_eq (length b % 4) 0 ∷ is_le 12 (length b) ∷ is_le (length b) 72 ∷ [])

-- "Version byte 0 in mvhd, tkhd, mdhd; payloads 100, 84, 24", and a time scale or track ID, both at 12, that is not 0
unfoldable pub head_form : ℕ → List ℕ → Bool
head_form n b = every (is_eq (length b) n ∷ is_eq (get_or b 0 0) 0 ∷ is_lt 0 (word 4 b 12) ∷ [])

-- "hdlr payload at least 24"
unfoldable pub handler_form : List ℕ → Bool
handler_form b = is_le 24 (length b)

-- a where a box of code c in a container of kind k is that of code C in kind K
unfoldable pub if_box : {A : Type 0} → (k c K C : ℕ) → A → A → A
if_box k c K C a b = if_eq k K (if_eq c C a b) b

unfoldable pub form : ℕ → ℕ → List ℕ → Bool
form k c b =
    if_box k c FILE FTYP (brands_form b)
    (if_box k c MOOV MVHD (head_form 100 b)
    (if_box k c TRAK TKHD (head_form 84 b)
    (if_box k c MDIA MDHD (head_form 24 b)
    (if_box k c MDIA HDLR (handler_form b) true))))
