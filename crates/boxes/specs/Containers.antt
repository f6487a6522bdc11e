-- The containers, and only on these paths: `moov`, `moov/trak`, `trak/mdia`, `mdia/minf`, `minf/stbl`, `minf/dinf`.
use Rattle.std.specs.Prelude.{ℕ}
use Rattle.wire.specs.Tests.{if_eq}
use Rattle.codes.specs.Codes.{MOOV, TRAK, MDIA, MINF, STBL, DINF}

-- a container's kind is its code, and that of the file is 1; 0 is the kind of an opaque box
abbrev pub FILE : ℕ
FILE = 1

-- the kind of container that a container of code c stands in
unfoldable pub parent : ℕ → ℕ
parent c =
    if_eq c MOOV FILE
    (if_eq c TRAK MOOV
    (if_eq c MDIA TRAK
    (if_eq c MINF MDIA
    (if_eq c STBL MINF
    (if_eq c DINF MINF 0)))))

-- the kind of a box of code c that stands in a container of kind k
unfoldable pub kind_in : ℕ → ℕ → ℕ
kind_in k c = if_eq (parent c) k c 0

-- the file, `moov`, `trak`, `mdia`, `minf`, `stbl`
abbrev pub DEPTH : ℕ
DEPTH = 6

-- the longest file
abbrev pub LONGEST : ℕ
LONGEST = 1048576
