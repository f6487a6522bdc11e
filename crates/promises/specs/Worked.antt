-- Edits that are done: a file with its `mdat` before `moov` is moved, its time shifted, its `d263` grows and shrinks back.
use Rattle.std.specs.Prelude.{ℕ, List, [], ◌∷◌, ◌++◌, map, pos}
use Rattle.codes.specs.Codes.{D263, BITR, S263, VIDE}
use Rattle.boxes.specs.Box.{Box, plain_box, write}
use Rattle.promise_kept.specs.Edits.{Edit, shift, replace, move}
use Rattle.promises.specs.Example.{zeros, ftyp_box, moov_box, mdat_box, file_at, visual}
use Rattle.promises.specs.Runs.{Lent, answer_of, goes_on}
use Rattle.rule.specs.Answers.{Answer}

-- a record of 15 bytes, and one of 31
abbrev pub small : Box
small = plain_box D263 (zeros 7)

abbrev pub large : Box
large = plain_box D263 (zeros 7 ++ write (plain_box BITR (zeros 8) ∷ []))

-- the payload of `mdat` starts 32 bytes into this file
abbrev pub media_first : List ℕ
media_first = write (ftyp_box ∷ mdat_box ∷ moov_box 7200 VIDE (visual S263 (small ∷ [])) 32 ∷ [])

-- each is lent 700 bytes
abbrev pub lent : Edit → Lent
lent e = record { edit = e; out = zeros 700 }

abbrev pub edits : List Lent
edits = map lent (move ∷ shift (pos 60) ∷ replace 1 (write (large ∷ [])) ∷ replace 1 (write (small ∷ [])) ∷ [])

-- the answers on the way, and the files
abbrev pub answers : List Lent → List ℕ → List Answer
answers [] xs = []
answers (l ∷ ls) xs = answer_of l xs ∷ answers ls (goes_on l xs)

abbrev pub files : List Lent → List ℕ → List (List ℕ)
files [] xs = []
files (l ∷ ls) xs = goes_on l xs ∷ files ls (goes_on l xs)

-- what they should be: `moov` before `mdat`, an hour less, the entry 16 bytes longer, and as before
abbrev pub expected : List (List ℕ)
expected =
    file_at 7200 VIDE (visual S263 (small ∷ []))
    ∷ file_at 3600 VIDE (visual S263 (small ∷ []))
    ∷ file_at 3600 VIDE (visual S263 (large ∷ []))
    ∷ file_at 3600 VIDE (visual S263 (small ∷ []))
    ∷ []
