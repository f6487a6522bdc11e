-- The sheet: what it says of a list of entries, in the edition that their count asks for.
use Rattle.std.specs.Prelude.{ℕ, ◌+◌, ◌-◌, ◌*◌, List, [], ◌∷◌, ◌++◌, length, replicate}
use Rattle.wire.specs.Tests.{if_le}
use Rattle.wire.specs.Numbers.{bytes, word}
use Rattle.movie.specs.Entries.{Entry}
use Rattle.entry_heads.specs.Kinds.{kind_of}
use Rattle.sheet.specs.declared.edition.Edition.{Edition}

-- ---- the editions: what byte 0 is, and how many slots

-- "Byte 0 is 1 (edition)", "Eight slots"
abbrev pub First : Edition
First = record { number = 1; slots = 8 }

-- K6: "edition 2: 32 slots"; no sheet has more
abbrev pub SLOTS : ℕ
SLOTS = 32

abbrev pub Second : Edition
Second = record { number = 2; slots = SLOTS }

-- K6: "edition 2 only for files with more than 8": the one of a sheet of n entries
unfoldable pub edition_for : ℕ → Edition
edition_for n = if_le n First.slots First Second

-- slots "of 12 bytes"
abbrev pub SLOT : ℕ
SLOT = 12

-- where the bodies start: byte 100 of the first edition, "byte 388" of the second
abbrev pub bodies_at : Edition → ℕ
bodies_at e = 4 + SLOT * e.slots

-- ---- its parts

-- "kind, track (from 1, in file order), two zeros, the entry's place in the file (4), body length (4)"
unfoldable pub slot : ℕ → ℕ → ℕ → ℕ → List ℕ
slot kind track place span = (kind ∷ track ∷ 0 ∷ 0 ∷ []) ++ bytes 4 place ++ bytes 4 span

abbrev pub slot_of : Entry → List ℕ
slot_of e = slot (kind_of (word 4 e.bytes 4)) e.track e.place (length e.bytes)

unfoldable pub slots : List Entry → List ℕ
slots [] = []
slots (e ∷ es) = slot_of e ++ slots es

-- "whole entry boxes in slot order"
unfoldable pub bodies : List Entry → List ℕ
bodies [] = []
bodies (e ∷ es) = e.bytes ++ bodies es

-- "Byte 0 is .. (edition), byte 1 the count n .., bytes 2 and 3 zero", the slots; "Unused slots are zero."
unfoldable pub front : Edition → List Entry → List ℕ
front edition es = (edition.number ∷ length es ∷ 0 ∷ 0 ∷ []) ++ slots es ++ replicate (SLOT * (edition.slots - length es)) 0

-- ---- the whole

unfoldable pub sheet : List Entry → List ℕ
sheet es = front (edition_for (length es)) es ++ bodies es
