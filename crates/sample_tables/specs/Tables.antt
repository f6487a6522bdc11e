-- A table's payload: version and flags, the stored count, then items of one width.
use Rattle.std.specs.Prelude.{ℕ, ◌+◌, ◌*◌, Bool, ◌≡◌, List, [], ◌∷◌, length, get_or}
use Rattle.wire.specs.Numbers.{word}
use Rattle.wire.specs.Clauses.{is_eq, every}

-- the stored count
abbrev pub items : List ℕ → ℕ
items xs = word 4 xs 4

-- the number at byte j of item i, of width w
abbrev pub field : (w j : ℕ) → List ℕ → ℕ → ℕ
field w j xs i = word 4 xs (8 + j + w * i)

-- rule 6 of any table: version byte 0, and a length in whole numbers
unfoldable pub has_form : ℕ → List ℕ → Bool
has_form n xs = every (is_eq (get_or xs 0 0) 0 ∷ is_eq (length xs) n ∷ [])

-- what it says
pub record Form (n : ℕ) (xs : List ℕ) : Type 0 where
  pub version : get_or xs 0 0 ≡ 0
  pub long : length xs ≡ n

-- "Payload of stts is 8+8n, stsc 8+12n, stco 8+4n": by the item width
abbrev pub table_form : ℕ → List ℕ → Bool
table_form w xs = has_form (8 + w * items xs) xs

abbrev pub Table : ℕ → List ℕ → Type 0
Table w xs = Form (8 + w * items xs) xs
