-- The `stsd`s of a file, in order.
use Rattle.std.specs.Prelude.{ℕ, ◌+◌, List, [], ◌∷◌, length, take, drop}
use Rattle.wire.specs.Tests.{if_eq}
use Rattle.codes.specs.Codes.{MOOV, TRAK, STSD}
use Rattle.boxes.specs.declared.walk.Form.TheVariants.{Plain}
use Rattle.boxes.specs.Box.{Box, head, size}
use Rattle.boxes.specs.Boxes.{boxes}
use Rattle.boxes.specs.Seek.{by_number, start_in}
use Rattle.boxes.specs.Way.{box_by}
use Rattle.movie.specs.Ways.{to_stsd, follow, start_along, place_along}
use Rattle.movie.specs.Movie.{movie}

-- its track, from 1, and that one's payload; its place in the file; where its payload starts there, and its payload
pub record Stsd : Type 0 where
  pub track : ℕ
  pub trak : List ℕ
  pub place : ℕ
  pub start : ℕ
  pub body : List ℕ

-- that of track t, whose payload b starts at place p
abbrev pub stsd_of : ℕ → List ℕ → ℕ → Stsd
stsd_of t b p = record { track = t; trak = b; place = p + place_along to_stsd b; start = p + start_along to_stsd b; body = follow to_stsd b }

-- those of the boxes l of `moov`, which stand from place p on after t tracks
unfoldable pub stsds_from : ℕ → List Box → ℕ → List Stsd
stsds_from t [] p = []
stsds_from t (x ∷ l) p =
    if_eq x.code TRAK
    (stsd_of (t + 1) x.body (p + head x) ∷ stsds_from (t + 1) l (p + size x))
    (stsds_from t l (p + size x))

unfoldable pub stsds : List ℕ → List Stsd
stsds xs = stsds_from 0 (movie xs) (start_in MOOV 0 (boxes xs))

-- what stands in the file xs as the payload of number i of them, from 0, under a plain header
unfoldable pub standing : List ℕ → List Stsd → ℕ → List ℕ
standing xs [] i = []
standing xs (s ∷ l) i = by_number i (box_by Plain STSD (take (length s.body) (drop s.start xs))) (λ j. standing xs l j)
