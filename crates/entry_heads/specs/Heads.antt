-- The heads of sample entries, byte for byte. An entry is a whole box, its header included.
use Rattle.std.specs.Prelude.{ℕ, Bool, true, List, [], ◌∷◌, ◌++◌, length}
use Rattle.wire.specs.Tests.{if_eq}
use Rattle.wire.specs.Numbers.{bytes, word}
use Rattle.wire.specs.Clauses.{is_eq, is_le, every}
use Rattle.codes.specs.Codes.{SOUN, VIDE}
use Rattle.entry_heads.specs.Kinds.{Avc1Kind, handler_of}

-- the header of a box
unfoldable pub box_header : ℕ → ℕ → List ℕ
box_header span code = bytes 4 span ++ bytes 4 code

-- all begin with 6 zero bytes and a data reference index
unfoldable pub common_head : ℕ → ℕ → ℕ → List ℕ
common_head span code reference = box_header span code ++ bytes 6 0 ++ bytes 2 reference

-- audio: then 8 zero bytes, 2, 16, 4 zero bytes, TimeScale, 2 zero bytes
unfoldable pub audio_head : ℕ → ℕ → ℕ → ℕ → List ℕ
audio_head span code reference scale =
    common_head span code reference ++ bytes 8 0 ++ bytes 2 2 ++ bytes 2 16 ++ bytes 4 0 ++ bytes 2 scale ++ bytes 2 0

-- visual: then 16 zero bytes, width, height, 0x00480000 twice,
unfoldable pub visual_start : ℕ → ℕ → ℕ → ℕ → ℕ → List ℕ
visual_start span code reference width height =
    common_head span code reference ++ bytes 16 0 ++ bytes 2 width ++ bytes 2 height ++ bytes 4 0x00480000 ++ bytes 4 0x00480000

-- 4 zero bytes, 1, a name of 32 bytes, 24, 0xFFFF
unfoldable pub visual_head : ℕ → ℕ → ℕ → ℕ → ℕ → List ℕ → List ℕ
visual_head span code reference width height name =
    visual_start span code reference width height ++ bytes 4 0 ++ bytes 2 1 ++ name ++ bytes 2 24 ++ bytes 2 0xFFFF

-- the lengths of the three
abbrev pub COMMON : ℕ
COMMON = 16

abbrev pub AUDIO : ℕ
AUDIO = 36

abbrev pub VISUAL : ℕ
VISUAL = 86

unfoldable pub head_size : ℕ → ℕ
head_size kind = if_eq (handler_of kind) SOUN AUDIO (if_eq (handler_of kind) VIDE VISUAL COMMON)

-- ---- the rule of a head, on the fields where they stand

-- "All begin with 6 zero bytes and a data reference index"
unfoldable pub common_rule : List ℕ → Bool
common_rule xs = every (is_le COMMON (length xs) ∷ is_eq (word 6 xs 8) 0 ∷ [])

-- "then 8 zero bytes, 16-bit 2, 16-bit 16, 4 zero bytes, 16-bit TimeScale .., 2 zero bytes: 36 bytes with the header"
unfoldable pub audio_rule : List ℕ → Bool
audio_rule xs =
    every
    (is_le AUDIO (length xs)
    ∷ is_eq (word 6 xs 8) 0
    ∷ is_eq (word 8 xs 16) 0
    ∷ is_eq (word 2 xs 24) 2
    ∷ is_eq (word 2 xs 26) 16
    ∷ is_eq (word 4 xs 28) 0
    ∷ is_eq (word 2 xs 34) 0
    ∷ [])

-- "32 zero bytes (any 32 in avc1)"
unfoldable pub name_rule : ℕ → List ℕ → Bool
name_rule kind xs = if_eq kind Avc1Kind true (is_eq (word 32 xs 50) 0)

-- "then 16 zero bytes, width, height (16 bits each), 0x00480000 twice, 4 zero bytes, 16-bit 1, 32 zero bytes .., 16-bit 24,
-- 0xFFFF: 86 bytes with the header"
unfoldable pub visual_rule : ℕ → List ℕ → Bool
visual_rule kind xs =
    every
    (is_le VISUAL (length xs)
    ∷ is_eq (word 6 xs 8) 0
    ∷ is_eq (word 16 xs 16) 0
    ∷ is_eq (word 4 xs 36) 0x00480000 ∷ is_eq (word 4 xs 40) 0x00480000
    ∷ is_eq (word 4 xs 44) 0 ∷ is_eq (word 2 xs 48) 1
    ∷ name_rule kind xs
    ∷ is_eq (word 2 xs 82) 24
    ∷ is_eq (word 2 xs 84) 0xFFFF
    ∷ [])

unfoldable pub head_rule : ℕ → List ℕ → Bool
head_rule kind xs = if_eq (handler_of kind) SOUN (audio_rule xs) (if_eq (handler_of kind) VIDE (visual_rule kind xs) (common_rule xs))

-- ---- the head that the writers make of the fields that stand in an entry

unfoldable pub name_in : ℕ → List ℕ → List ℕ
name_in kind xs = bytes 32 (if_eq kind Avc1Kind (word 32 xs 50) 0)

unfoldable pub head_in : ℕ → List ℕ → List ℕ
head_in kind xs =
    if_eq (handler_of kind) SOUN (audio_head (word 4 xs 0) (word 4 xs 4) (word 2 xs 14) (word 2 xs 32))
    (if_eq (handler_of kind) VIDE (visual_head (word 4 xs 0) (word 4 xs 4) (word 2 xs 14) (word 2 xs 32) (word 2 xs 34) (name_in kind xs))
    (common_head (word 4 xs 0) (word 4 xs 4) (word 2 xs 14)))
