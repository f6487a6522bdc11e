-- Ways down from a `trak`, by the first box of each code, one in the other.
use Rattle.std.specs.Prelude.{ℕ, ◌+◌, List, [], ◌∷◌}
use Rattle.codes.specs.Codes.{MDIA, MINF, STBL, STSD, DINF, DREF}
use Rattle.boxes.specs.Boxes.{boxes}
use Rattle.boxes.specs.Seek.{find, place_in, start_in}

-- to a box of its `stbl`
abbrev pub to_table : ℕ → List ℕ
to_table c = MDIA ∷ MINF ∷ STBL ∷ c ∷ []

abbrev pub to_stsd : List ℕ
to_stsd = to_table STSD

abbrev pub to_dref : List ℕ
to_dref = MDIA ∷ MINF ∷ DINF ∷ DREF ∷ []

-- the payload at the end of a way, and nothing where a box is missing
unfoldable pub follow : List ℕ → List ℕ → List ℕ
follow [] b = b
follow (c ∷ cs) b = follow cs (find c (boxes b))

-- how far into b the payload at the end of a way starts
unfoldable pub start_along : List ℕ → List ℕ → ℕ
start_along [] b = 0
start_along (c ∷ cs) b = start_in c 0 (boxes b) + start_along cs (find c (boxes b))

-- how far into b the box at the end of a way starts
unfoldable pub place_along : List ℕ → List ℕ → ℕ
place_along [] b = 0
place_along (c ∷ []) b = place_in c 0 (boxes b)
place_along (c ∷ d ∷ cs) b = start_in c 0 (boxes b) + place_along (d ∷ cs) (find c (boxes b))
