-- What code asks and writes, by a zone in seconds.
use Rattle.std.specs.Prelude.{ℕ, Bool, true, List, [], ◌∷◌}
use Rattle.wire.specs.Tests.{if_eq}
use Rattle.wire.specs.Clauses.{every}
use Rattle.wire.specs.Sums.{all_to}
use Rattle.codes.specs.Codes.{MOOV, MVHD, TRAK, TKHD, MDIA, MDHD}
use Rattle.boxes.specs.declared.words.By.{By}
use Rattle.boxes.specs.declared.words.Target.{Target}
use Rattle.boxes.specs.declared.words.Targets.{Targets}
use Rattle.boxes.specs.Boxes.{boxes}
use Rattle.boxes.specs.Seek.{count, find, nth}
use Rattle.boxes.specs.Words.{moved}
use Rattle.clocks.specs.declared.Zone.{Zone}
use Rattle.clocks.specs.Zones.{leaves}
use Rattle.rule.specs.Results.{ToWrite, asked}
use Rattle.rule.specs.Results.ToWrite.{gives}
use Rattle.judge.specs.Acceptance.{editable}
use Rattle.edit_offsets.specs.Close.{closed}
use Rattle.edit_shift.specs.Shift.{CREATION, both, track_times, all_times, all_times_by}

-- p of the times of a box of `moov`, of all its tracks, and of all that it holds
unfoldable pub box_times : (ℕ → Bool) → ℕ → List ℕ → Bool
box_times p c b = if_eq c TRAK (track_times p b) true

unfoldable pub tracks_times : (ℕ → Bool) → List ℕ → Bool
tracks_times p ys = all_to (λ t. track_times p (nth TRAK t (boxes ys))) (count TRAK (boxes ys))

unfoldable pub moov_times : (ℕ → Bool) → List ℕ → Bool
moov_times p ys = every (both p (find MVHD (boxes ys)) ∷ tracks_times p ys ∷ [])

-- the times of the boxes of one code in one kind of container, and of the three kinds
abbrev pub times_of : ℕ → ℕ → Target
times_of kind code = record { kind = kind; code = code; from = CREATION; span = 8 }

abbrev pub headers_of : Targets
headers_of = record { one = times_of MOOV MVHD; two = times_of TRAK TKHD; three = times_of MDIA MDHD }

-- a time of 0 is below the limit, and stays
abbrev pub by_zone : Zone → By
by_zone z = record { limit = 1; low = 0; high = z.behind; less = z.ahead }

unfoldable pub zone_text : Zone → List ℕ → List ℕ
zone_text z xs = all_times_by (moved (by_zone z)) (closed xs)

-- of an accepted file
unfoldable pub zone_result : Zone → List ℕ → ToWrite
zone_result z xs = asked ((22, all_times (leaves z) xs) ∷ (23, editable xs) ∷ []) (gives (zone_text z xs))
