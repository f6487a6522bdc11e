-- The lines of an outline, and how they are printed, each with its newline.
use Rattle.std.specs.Prelude.{ℕ, zero, suc, ◌+◌, ◌/◌, ◌%◌, Bool, List, [], ◌∷◌, ◌++◌, map}
use Rattle.wire.specs.Tests.{pick, if_lt}
use Rattle.wire.specs.Clauses.{is_le, every}
use Rattle.wire.specs.Numbers.{bytes}
use Rattle.wire.specs.Text.{text}
use Rattle.decimal.specs.Decimal.{labelled}

-- a box, or a place at which a box doesn't fit
pub data Line : Type 0 where
  box : (code place size depth : ℕ) → Line
  broken : (place : ℕ) → Line

-- ---- a code

-- a byte is not "outside 0x20 to 0x7E"
abbrev pub prints : ℕ → Bool
prints b = every (is_le 0x20 b ∷ is_le b 0x7E ∷ [])

-- a digit of base 16, "in capitals"
unfoldable pub digit : ℕ → ℕ
digit n = if_lt n 10 (48 + n) (55 + n)

-- the last w digits of a number
unfoldable pub hex : ℕ → ℕ → List ℕ
hex zero n = []
hex (suc w) n = hex w (n / 16) ++ digit (n % 16) ∷ []

-- its four bytes, or "`0x` and 8 hex digits"
unfoldable pub code_printed : ℕ → List ℕ
code_printed c = pick (every (map prints (bytes 4 c))) (bytes 4 c) (text "0x" ++ hex 8 c)

-- ---- a line

-- "`box CODE place P size S depth D`"
unfoldable pub box_text : (code place size depth : ℕ) → List ℕ
box_text c p s d = text "box " ++ code_printed c ++ labelled (text " place ") p ++ labelled (text " size ") s ++ labelled (text " depth ") d ++ text "\n"

-- "`broken place P`"
unfoldable pub broken_text : ℕ → List ℕ
broken_text p = labelled (text "broken place ") p ++ text "\n"

abbrev pub line_text : Line → List ℕ
line_text (box c p s d) = box_text c p s d
line_text (broken p) = broken_text p

unfoldable pub printed : List Line → List ℕ
printed [] = []
printed (l ∷ ls) = line_text l ++ printed ls
