-- "Brand answers": yes exactly if the code is listed, what it needs beside it is, and the brand's own conditions hold.
use Rattle.std.specs.Prelude.{ℕ, Bool, true, false, List, [], ◌∷◌}
use Rattle.wire.specs.Tests.{if_eq}
use Rattle.wire.specs.Clauses.{is_eq, is_le, every, either, one_if}
use Rattle.wire.specs.Sums.{sum_to, all_to}
use Rattle.codes.specs.Codes.{FTYP, MOOV, AVC1, VIDE, SOUN, TEXT, ISOM, GP4, GP5, GP6, GR6}
use Rattle.boxes.specs.Box.{Box}
use Rattle.boxes.specs.Boxes.{boxes}
use Rattle.boxes.specs.Seek.{ANY, count, find}
use Rattle.movie.specs.Movie.{tracks, track, handler}
use Rattle.movie.specs.Named.{list_in}
use Rattle.release.specs.Compatible.{brand_listed}

-- ---- the compatible list

-- "isom or avc1", as brands
unfoldable pub isom_or_avc1 : List ℕ → Bool
isom_or_avc1 ftyp = either (brand_listed ISOM ftyp ∷ brand_listed AVC1 ftyp ∷ [])

-- "3gp4 needs neither, 3gp5 needs isom, 3gp6 and 3gr6 need isom or avc1"
unfoldable pub beside_it : ℕ → List ℕ → Bool
beside_it code ftyp = if_eq code GP4 true (if_eq code GP5 (brand_listed ISOM ftyp) (isom_or_avc1 ftyp))

-- ---- the tracks of a file

-- how many of the first n have handler h, and how many of all
unfoldable pub handled_to : ℕ → List ℕ → ℕ → ℕ
handled_to h xs n = sum_to (λ t. one_if (is_eq (handler (track xs t)) h)) n

abbrev pub handled : ℕ → List ℕ → ℕ
handled h xs = handled_to h xs (tracks xs)

-- one entry stands in a track's `stsd`
unfoldable pub one_entry : List ℕ → Bool
one_entry b = is_eq (count ANY (boxes (list_in b))) 1

-- "one sample entry in each vide and soun track"
unfoldable pub single : List ℕ → Bool
single b = if_eq (handler b) VIDE (one_entry b) (if_eq (handler b) SOUN (one_entry b) true)

unfoldable pub single_to : List ℕ → ℕ → Bool
single_to xs n = all_to (λ t. single (track xs t)) n

-- "no avc1 entry"
unfoldable pub no_avc1 : List ℕ → Bool
no_avc1 b = is_eq (count AVC1 (boxes (list_in b))) 0

unfoldable pub no_avc1_to : List ℕ → ℕ → Bool
no_avc1_to xs n = all_to (λ t. no_avc1 (track xs t)) n

-- ---- the brands' own conditions

-- "at most one track each with handler vide, soun, text; one sample entry in each vide and soun track"
unfoldable pub few : List ℕ → Bool
few xs = every (is_le (handled VIDE xs) 1 ∷ is_le (handled SOUN xs) 1 ∷ is_le (handled TEXT xs) 1 ∷ single_to xs (tracks xs) ∷ [])

-- "3gp4 and 3gp5 also need no avc1 entry"
unfoldable pub early : List ℕ → Bool
early xs = every (few xs ∷ no_avc1_to xs (tracks xs) ∷ [])

-- the code of the second box, 0 where there is none
unfoldable pub second : List Box → ℕ
second [] = 0
second (x ∷ []) = 0
second (x ∷ y ∷ l) = y.code

-- "moov right after ftyp": the very next top-level box
unfoldable pub ready : List ℕ → Bool
ready xs = is_eq (second (boxes xs)) MOOV

-- no other code is a brand
unfoldable pub own_conditions : ℕ → List ℕ → Bool
own_conditions code xs = if_eq code GP4 (early xs) (if_eq code GP5 (early xs) (if_eq code GP6 (few xs) (if_eq code GR6 (ready xs) false)))

unfoldable pub brand_holds : ℕ → List ℕ → Bool
brand_holds code xs = every (brand_listed code (find FTYP (boxes xs)) ∷ beside_it code (find FTYP (boxes xs)) ∷ own_conditions code xs ∷ [])
