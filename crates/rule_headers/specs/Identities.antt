-- Rule 4 of many boxes: "Track IDs different (place: the later tkhd)".
use Rattle.std.specs.Prelude.{ℕ, zero, suc, ◌+◌, Bool, not, List}
use Rattle.wire.specs.Numbers.{word}
use Rattle.wire.specs.Clauses.{is_eq}
use Rattle.wire.specs.Sums.{all_to}
use Rattle.codes.specs.Codes.{TRAK, TKHD}
use Rattle.boxes.specs.Box.{Box}
use Rattle.boxes.specs.Boxes.{boxes}
use Rattle.boxes.specs.Seek.{count, nth, find, place_in, start_in}
use Rattle.rule.specs.Verdict.{sooner, unless, Verdict, Fine}

-- the ID of track i, from 0, of the boxes of a `moov`
unfoldable pub identity : List Box → ℕ → ℕ
identity l i = word 4 (find TKHD (boxes (nth TRAK i l))) 12

-- no track before it has the same
unfoldable pub fresh : List Box → ℕ → ℕ → Bool
fresh l i n = all_to (λ j. not (is_eq (identity l j) (identity l i))) n

-- the place of its `tkhd`
unfoldable pub tkhd_place : List Box → ℕ → ℕ → ℕ
tkhd_place l p i = p + start_in TRAK i l + place_in TKHD 0 (boxes (nth TRAK i l))

-- of the first n tracks, with places and without
unfoldable pub fresh_to : List Box → ℕ → ℕ → Verdict
fresh_to l p zero = Fine
fresh_to l p (suc n) = sooner (fresh_to l p n) (unless (fresh l n n) (tkhd_place l p n))

unfoldable pub different : List Box → Bool
different l = all_to (λ i. fresh l i i) (count TRAK l)
