-- "Shift times by z minutes .. 60z is taken from each non-zero creation and modification time in mvhd, every tkhd, every mdhd.
-- Zero stays zero", and 22 where "a non-zero time would leave 1 to 4,294,967,295": said of the times that are read from the result,
-- where the test of 22 reads them.
use Rattle.std.specs.Prelude.{ℕ, ◌≤◌, ◌<◌, ◌≡◌, List, ℤ, pos}
use Rattle.wire.specs.Numbers.{word}
use Rattle.codes.specs.Codes.{MVHD, TKHD, MDHD}
use Rattle.boxes.specs.Boxes.{boxes}
use Rattle.boxes.specs.Seek.{find}
use Rattle.clocks.specs.Clocks.{less}
use Rattle.movie.specs.Movie.{movie, tracks, track, mdia}
use Rattle.edit_shift.specs.Shift.{CREATION, MODIFICATION}

-- the time t is u after the shift
pub record Shifted (z : ℤ) (t u : ℕ) : Type 0 where
  pub stays : t ≡ 0 → u ≡ 0
  pub taken : (t ≡ 0 → ⊥) → pos u ≡ less t z
  pub fits : (t ≡ 0 → ⊥) → (1 ≤ u) × (u ≤ 4294967295)

-- both times of a header
pub record BothShifted (z : ℤ) (b b' : List ℕ) : Type 0 where
  pub creation : Shifted z (word 4 b CREATION) (word 4 b' CREATION)
  pub modification : Shifted z (word 4 b MODIFICATION) (word 4 b' MODIFICATION)

-- those of every header of a file
pub record TimesShifted (z : ℤ) (xs ys : List ℕ) : Type 0 where
  pub same : tracks ys ≡ tracks xs
  pub mvhd : BothShifted z (find MVHD (movie xs)) (find MVHD (movie ys))
  pub tkhd : (t : ℕ) → t < tracks xs → BothShifted z (find TKHD (boxes (track xs t))) (find TKHD (boxes (track ys t)))
  pub mdhd : (t : ℕ) → t < tracks xs → BothShifted z (find MDHD (mdia (track xs t))) (find MDHD (mdia (track ys t)))
