-- "Shift times by z minutes, -840 to 840: 60z is taken from each non-zero creation and modification time in mvhd, every tkhd,
-- every mdhd. Zero stays zero."
use Rattle.std.specs.Prelude.{ℕ, Bool, List, [], ◌∷◌, ℤ}
use Rattle.wire.specs.Tests.{pick}
use Rattle.wire.specs.Clauses.{is_eq, every, either}
use Rattle.wire.specs.Numbers.{word}
use Rattle.wire.specs.Sums.{all_to}
use Rattle.codes.specs.Codes.{MOOV, MVHD, TRAK, TKHD, MDIA, MDHD}
use Rattle.boxes.specs.Boxes.{boxes}
use Rattle.boxes.specs.Containers.{FILE, DEPTH}
use Rattle.boxes.specs.Seek.{find}
use Rattle.boxes.specs.Rewrite.{Leaves, edit_in}
use Rattle.boxes.specs.Words.{reword}
use Rattle.clocks.specs.Clocks.{zone_fine, shift_time, may_shift}
use Rattle.movie.specs.Movie.{movie, tracks, track, mdia}
use Rattle.rule.specs.Results.{ToWrite}
use Rattle.judge.specs.Calls.{result_on}
use Rattle.judge.specs.Acceptance.{editable}
use Rattle.edit_offsets.specs.Close.{closed}
use Rattle.edit_offsets.specs.Settle.{settled}

-- ---- its meaning

-- the opaque boxes with times, by the container's kind k and the code c
unfoldable pub has_times : ℕ → ℕ → Bool
has_times k c =
    either
    (every (is_eq k MOOV ∷ is_eq c MVHD ∷ [])
    ∷ every (is_eq k TRAK ∷ is_eq c TKHD ∷ [])
    ∷ every (is_eq k MDIA ∷ is_eq c MDHD ∷ [])
    ∷ [])

-- "creation time at 4, modification at 8"
abbrev pub CREATION : ℕ
CREATION = 4

abbrev pub MODIFICATION : ℕ
MODIFICATION = 8

-- both times of such a box by f
unfoldable pub times_leaf : (ℕ → ℕ) → Leaves
times_leaf f k c b = pick (has_times k c) (reword f CREATION 8 b) b

unfoldable pub all_times_by : (ℕ → ℕ) → List ℕ → List ℕ
all_times_by f xs = edit_in (times_leaf f) DEPTH FILE xs

unfoldable pub shift_of : ℤ → List ℕ → List ℕ
shift_of z xs = settled xs (all_times_by (shift_time z) (closed xs))

-- ---- its answer

-- p of both times of a header
unfoldable pub both : (ℕ → Bool) → List ℕ → Bool
both p b = every (p (word 4 b CREATION) ∷ p (word 4 b MODIFICATION) ∷ [])

-- and of a track's two headers
unfoldable pub track_times : (ℕ → Bool) → List ℕ → Bool
track_times p b = every (both p (find TKHD (boxes b)) ∷ both p (find MDHD (mdia b)) ∷ [])

unfoldable pub all_times : (ℕ → Bool) → List ℕ → Bool
all_times p xs = every (both p (find MVHD (movie xs)) ∷ all_to (λ t. track_times p (track xs t)) (tracks xs) ∷ [])

-- 22: "minutes outside -840 to 840, or a non-zero time would leave 1 to 4,294,967,295"
unfoldable pub shiftable : ℤ → List ℕ → Bool
shiftable z xs = every (zone_fine z ∷ all_times (may_shift z) xs ∷ [])

-- "shift 22, 23, 25"
unfoldable pub shift_result : ℤ → List ℕ → ToWrite
shift_result z xs = result_on xs ((22, shiftable z xs) ∷ (23, editable xs) ∷ []) (shift_of z xs)
