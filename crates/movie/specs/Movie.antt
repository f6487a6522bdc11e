-- The movie of a file: its tracks, in file order and from 0, and what each of them says.
use Rattle.std.specs.Prelude.{ℕ, List}
use Rattle.codes.specs.Codes.{MOOV, TRAK, TKHD, MDIA, MDHD, HDLR, MINF}
use Rattle.wire.specs.Numbers.{word}
use Rattle.boxes.specs.Box.{Box}
use Rattle.boxes.specs.Boxes.{boxes}
use Rattle.boxes.specs.Seek.{count, find, nth}
use Rattle.movie.specs.Ways.{to_table, to_dref, follow}

-- the boxes of `moov`
abbrev pub movie : List ℕ → List Box
movie xs = boxes (find MOOV (boxes xs))

abbrev pub tracks : List ℕ → ℕ
tracks xs = count TRAK (movie xs)

-- the payload of track t
unfoldable pub track : List ℕ → ℕ → List ℕ
track xs t = nth TRAK t (movie xs)

-- ---- the boxes of a track's containers, by the track's payload b

abbrev pub mdia : List ℕ → List Box
mdia b = boxes (find MDIA (boxes b))

abbrev pub minf : List ℕ → List Box
minf b = boxes (find MINF (mdia b))

-- ---- what it says

-- the payload of a box of its `stbl`
unfoldable pub sample_table : ℕ → List ℕ → List ℕ
sample_table c b = follow (to_table c) b

-- the count that a list of boxes stores before them
abbrev pub stored_count : List ℕ → ℕ
stored_count b = word 4 b 4

-- how many data references it has
unfoldable pub references : List ℕ → ℕ
references b = stored_count (follow to_dref b)

-- "hdlr has its type at 8"
unfoldable pub handler : List ℕ → ℕ
handler b = word 4 (find HDLR (mdia b)) 8

-- "mvhd and mdhd have .. time scale at 12"
unfoldable pub scale : List ℕ → ℕ
scale b = word 4 (find MDHD (mdia b)) 12

-- "movie ticks (the tkhd number at 20)"
unfoldable pub movie_ticks : List ℕ → ℕ
movie_ticks b = word 4 (find TKHD (boxes b)) 20
