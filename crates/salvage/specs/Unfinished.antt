-- What a recorder leaves that dies: "a whole `ftyp`, its contents not judged, and right after it one `mdat` whose size is 0 or past the
-- end, both with 8-byte headers, and nothing else".
use Rattle.std.specs.Prelude.{ℕ, Bool, List, [], ◌∷◌, length, drop}
use Rattle.wire.specs.Clauses.{is_eq, is_lt, is_le, every, either}
use Rattle.wire.specs.Numbers.{word}
use Rattle.codes.specs.Codes.{FTYP, MDAT}
use Rattle.boxes.specs.Boxes.{HEAD}

-- the size field and the code of the 8-byte header at the front
abbrev pub size_field : List ℕ → ℕ
size_field xs = word 4 xs 0

abbrev pub code_field : List ℕ → ℕ
code_field xs = word 4 xs 4

-- what stands right after the `ftyp`
abbrev pub behind_ftyp : List ℕ → List ℕ
behind_ftyp xs = drop (size_field xs) xs

-- an `mdat` with "size 0 or past the end", so that nothing else follows; a size of 1 to 8 is never past it
unfoldable pub endless : List ℕ → Bool
endless ys = every (is_eq (code_field ys) MDAT ∷ either (is_eq (size_field ys) 0 ∷ is_lt (length ys) (size_field ys) ∷ []) ∷ [])

unfoldable pub unfinished : List ℕ → Bool
unfinished xs =
    every (is_eq (code_field xs) FTYP ∷ is_le HEAD (size_field xs) ∷ is_le (size_field xs) (length xs) ∷ endless (behind_ftyp xs) ∷ [])
