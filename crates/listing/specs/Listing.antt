-- The printed listing of a file.
use Rattle.std.specs.Prelude.{ℕ, zero, suc, ◌+◌, List, [], ◌∷◌, ◌++◌, Err}
use Rattle.wire.specs.Text.{text}
use Rattle.wire.specs.Clauses.{one_if}
use Rattle.codes.specs.Codes.{GP4, GP5, GP6, GR6}
use Rattle.movie.specs.Movie.{tracks, track, handler, scale}
use Rattle.movie.specs.Entries.{Entry, entries}
use Rattle.rule.specs.Results.{ToWrite}
use Rattle.rule.specs.Results.ToWrite.{gives}
use Rattle.judge.specs.Judgement.{judged, Judgement, Accepted}
use Rattle.read_tracks.specs.Reads.{media_of}
use Rattle.brands.specs.Brands.{brand_holds}
use Rattle.listing.specs.Lines.{track_line, entry_line, brand_line, refused_line}

-- the line of track t, whose payload is b
unfoldable pub line_of : ℕ → List ℕ → List ℕ
line_of t b = track_line t (handler b) (media_of b) (scale b)

-- those of the first n tracks, which are numbered from 1
unfoldable pub track_lines : List ℕ → ℕ → List ℕ
track_lines xs zero = []
track_lines xs (suc n) = track_lines xs n ++ line_of (n + 1) (track xs n)

-- those of entries that are numbered from i on
unfoldable pub entry_lines : ℕ → List Entry → List ℕ
entry_lines i [] = []
entry_lines i (e ∷ es) = entry_line i e ++ entry_lines (i + 1) es

-- the first of them alone
unfoldable pub first_line : ℕ → List Entry → List ℕ
first_line i [] = []
first_line i (e ∷ es) = entry_line i e

-- the line of a brand
unfoldable pub brand_of : ℕ → List ℕ → List ℕ
brand_of code xs = brand_line code (one_if (brand_holds code xs))

unfoldable pub brand_lines : List ℕ → List ℕ
brand_lines xs = brand_of GP4 xs ++ brand_of GP5 xs ++ brand_of GP6 xs ++ brand_of GR6 xs

-- "All track lines come first, then all entry lines, then the brands."
unfoldable pub accepted_lines : List ℕ → List ℕ
accepted_lines xs = text "file 0\n" ++ track_lines xs (tracks xs) ++ entry_lines 1 (entries xs) ++ brand_lines xs

unfoldable pub lines_for : Judgement → List ℕ → List ℕ
lines_for Accepted xs = accepted_lines xs
lines_for (Err e) xs = refused_line e.number e.place

abbrev pub listing : List ℕ → List ℕ
listing xs = lines_for (judged xs) xs

-- a refused file has a listing too: only 25 is refused
unfoldable pub listing_result : List ℕ → ToWrite
listing_result xs = gives (listing xs)
