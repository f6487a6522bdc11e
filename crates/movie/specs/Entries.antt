-- The sample entries of a file, "entries in file order": those of one `stsd` after the other.
use Rattle.std.specs.Prelude.{ℕ, ◌+◌, List, [], ◌∷◌, ◌++◌, drop}
use Rattle.boxes.specs.Box.{Box, size, header}
use Rattle.boxes.specs.Boxes.{FRONT, boxes}
use Rattle.movie.specs.Stsds.{Stsd, stsds}

-- its track, from 1; its place in the file; the whole box
pub record Entry : Type 0 where
  pub track : ℕ
  pub place : ℕ
  pub bytes : List ℕ

-- the boxes l of track t, which stand from place p on
unfoldable pub entries_from : ℕ → List Box → ℕ → List Entry
entries_from t [] p = []
entries_from t (x ∷ l) p = record { track = t; place = p; bytes = header x ++ x.body } ∷ entries_from t l (p + size x)

-- the boxes past the front of an `stsd`
unfoldable pub entries_of : Stsd → List Entry
entries_of s = entries_from s.track (boxes (drop FRONT s.body)) (s.start + FRONT)

unfoldable pub entries_in : List Stsd → List Entry
entries_in [] = []
entries_in (s ∷ l) = entries_of s ++ entries_in l

unfoldable pub entries : List ℕ → List Entry
entries xs = entries_in (stsds xs)
