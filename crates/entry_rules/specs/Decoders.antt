-- The decoder record of an entry: one whole box, `damr` or `d263`.
use Rattle.std.specs.Prelude.{ℕ, ◌-◌, ◌%◌, Bool, false, List, [], ◌∷◌, length, drop}
use Rattle.std.specs.Int.Bits.{bit_and}
use Rattle.wire.specs.Tests.{if_eq}
use Rattle.wire.specs.Clauses.{is_eq, is_le, every, either}
use Rattle.wire.specs.Numbers.{word}
use Rattle.codes.specs.Codes.{DAMR, D263, BITR}
use Rattle.release.specs.declared.Release.{Release}
use Rattle.release.specs.Releases.{most_frames}
use Rattle.entry_heads.specs.Kinds.{SamrKind, SawbKind, S263Kind}

-- xs is one whole box of a code: its size field is its length
unfoldable pub box_rule : ℕ → List ℕ → Bool
box_rule code xs = every (is_eq (word 4 xs 0) (length xs) ∷ is_eq (word 4 xs 4) code ∷ [])

-- "mode_set has no bit outside 0x81FF (samr) or 0x83FF (sawb)": it shares none with the rest of the 16 bits
unfoldable pub mode_mask : ℕ → ℕ
mode_mask kind = if_eq kind SamrKind 0x81FF 0x83FF

unfoldable pub modes_rule : ℕ → ℕ → Bool
modes_rule kind modes = is_eq (bit_and modes (0xFFFF - mode_mask kind)) 0

-- "A period p other than 0 divides it or is divided by it."
unfoldable pub period_rule : ℕ → ℕ → Bool
period_rule period frames = either (is_eq period 0 ∷ is_eq (frames % period) 0 ∷ is_eq (period % frames) 0 ∷ [])

-- "frames_per_sample is 1 to" the most of its release
unfoldable pub frames_rule : ℕ → Release → ℕ → ℕ → ℕ → Bool
frames_rule kind release modes period frames =
    every (modes_rule kind modes ∷ is_le 1 frames ∷ is_le frames (most_frames release) ∷ period_rule period frames ∷ [])

-- "exactly one damr of 17 bytes follows and ends the entry: vendor 4, decoder version 1, mode_set 2, mode_change_period 1,
-- frames_per_sample 1"
unfoldable pub damr_rule : ℕ → Release → List ℕ → Bool
damr_rule kind release xs =
    every (box_rule DAMR xs ∷ is_eq (length xs) 17 ∷ frames_rule kind release (word 2 xs 13) (word 1 xs 15) (word 1 xs 16) ∷ [])

-- "vendor 4, version 1, level 1, profile 1, then nothing (15 bytes) or one bitr of 16 bytes with average and maximum rate (31 bytes)"
unfoldable pub rated_rule : List ℕ → Bool
rated_rule xs = either (is_eq (length xs) 15 ∷ every (is_eq (length xs) 31 ∷ box_rule BITR (drop 15 xs) ∷ []) ∷ [])

-- "exactly one d263 and nothing after it"
unfoldable pub d263_rule : List ℕ → Bool
d263_rule xs = every (box_rule D263 xs ∷ rated_rule xs ∷ [])

-- the record of an entry of a kind: the other kinds have none
unfoldable pub record_rule : ℕ → Release → List ℕ → Bool
record_rule kind release xs =
    if_eq kind SamrKind (damr_rule kind release xs) (if_eq kind SawbKind (damr_rule kind release xs) (if_eq kind S263Kind (d263_rule xs) false))
