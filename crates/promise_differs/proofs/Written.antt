-- Refusal 22 is tied to the times that are written: each time that is read from the result of a shift is the time before, shifted. Assumes nothing.
use Prim.Native.Nat.{ℕ, ◌<◌}
use native.Mathlib.Omega.{arith}
use mathlib.Core.Path.{◌≡◌, refl}
use mathlib.Core.Bool.{true}
use mathlib.Core.List.{List, []}
use lib.IntN.{ℤ}
use Rattle.wire.specs.Tests.{if_eq}
use Rattle.wire.specs.Clauses.{is_eq, every, either}
use Rattle.wire.specs.Numbers.{Bytes}
use Rattle.wire.proofs.Clauses.{clause}
use Rattle.wire.proofs.Sums.{all_at}
use Rattle.codes.specs.Codes.{MOOV, MVHD, TRAK, TKHD, MDIA, MDHD}
use Rattle.boxes.specs.Boxes.{boxes}
use Rattle.boxes.specs.Containers.{FILE, DEPTH, parent, kind_in}
use Rattle.boxes.specs.Seek.{nth, find}
use Rattle.boxes.specs.Words.{reword}
use Rattle.boxes.specs.Kin.{Leaf, Kin}
use Rattle.boxes.proofs.Kin.{Made, kin_find, kin_child}
use Rattle.boxes.proofs.Wording.{reword_past}
use Rattle.clocks.specs.Clocks.{shift_time, may_shift}
use Rattle.movie.specs.Movie.{movie, tracks, track, mdia}
use Rattle.movie.proofs.Kept.{In}
use Rattle.rule_shape.specs.Three.{needed}
use Rattle.rule_shape.proofs.Descent.{Met, needed_leaf, in_moov, in_track, in_mdia}
use Rattle.rule_headers.specs.Forms.{head_form, if_box, form}
use Rattle.rule_headers.specs.Four.{four_rule}
use Rattle.judge.specs.Acceptance.{Meets}
use Rattle.judge.proofs.Tables.{file_met}
use Rattle.edit_shift.specs.Shift.{has_times, times_leaf, track_times, all_times, shift_of}
use Rattle.promise_kept.proofs.Edits.{keeps_shift}
use Rattle.promise_differs.specs.Times.{TimesShifted}
use Rattle.promise_differs.proofs.Timing.{shift_kin}
use Rattle.promise_differs.proofs.Tracking.{track_kin}
use Rattle.promise_differs.proofs.Header.{head_shifted}

-- ---- rule 4 of the headers

mvhd_form : {xs : List ℕ} → Met four_rule DEPTH FILE xs → head_form 100 (find MVHD (movie xs)) ≡ true
unfolding needed kind_in parent form if_box if_eq
mvhd_form m = needed_leaf (in_moov m) MVHD refl refl

tkhd_form : {b : List ℕ} → Met four_rule 4 TRAK b → head_form 84 (find TKHD (boxes b)) ≡ true
unfolding needed kind_in parent form if_box if_eq
tkhd_form m = needed_leaf m TKHD refl refl

mdhd_form : {b : List ℕ} → Met four_rule 4 TRAK b → head_form 24 (find MDHD (mdia b)) ≡ true
unfolding needed kind_in parent form if_box if_eq
mdhd_form m = needed_leaf (in_mdia m) MDHD refl refl

-- ---- what is written into them, their times by any function

module _ (f : ℕ → ℕ) where
  abbrev Reworded : List ℕ → List ℕ → Type 0
  Reworded b b' = b' ≡ reword f 4 8 b

  abbrev leaf : Leaf
  leaf = Made (times_leaf f)

  empty : Reworded [] []
  empty = reword_past f 4 8 [] (omega arith)

  mvhd_written : (xs ys : List ℕ) → Kin leaf DEPTH FILE xs ys → Reworded (find MVHD (movie xs)) (find MVHD (movie ys))
  unfolding kind_in parent if_eq boxes nth times_leaf has_times either every is_eq
  mvhd_written xs ys a =
      kin_child leaf 5 FILE xs ys a MOOV (λ z. omega arith) (In MVHD Reworded) empty (λ z. omega arith)
      (λ b b' r. kin_find leaf 4 MOOV b b' r MVHD (λ z. omega arith) Reworded empty refl (λ b b' r. r.0) 0) 0

  tkhd_written : (b b' : List ℕ) → Kin leaf 4 TRAK b b' → Reworded (find TKHD (boxes b)) (find TKHD (boxes b'))
  unfolding kind_in parent if_eq times_leaf has_times either every is_eq
  tkhd_written b b' a = kin_find leaf 3 TRAK b b' a TKHD (λ z. omega arith) Reworded empty refl (λ b b' r. r.0) 0

  mdhd_written : (b b' : List ℕ) → Kin leaf 4 TRAK b b' → Reworded (find MDHD (mdia b)) (find MDHD (mdia b'))
  unfolding kind_in parent if_eq boxes nth times_leaf has_times either every is_eq
  mdhd_written b b' a =
      kin_child leaf 3 TRAK b b' a MDIA (λ z. omega arith) (In MDHD Reworded) empty (λ z. omega arith)
      (λ b b' r. kin_find leaf 2 MDIA b b' r MDHD (λ z. omega arith) Reworded empty refl (λ b b' r. r.0) 0) 0

-- ---- a shift whose times all may be shifted

pub shift_times : (z : ℤ) (xs : List ℕ) → Bytes xs → Meets xs → all_times (may_shift z) xs ≡ true → TimesShifted z xs (shift_of z xs)
unfolding all_times track_times
shift_times z xs w m h =
    record {
      same = (keeps_shift z xs w m).kept.tracks;
      mvhd = head_shifted z 100 _ _ (omega arith) (mvhd_form met) (clause 0 _ h) (mvhd_written (shift_time z) xs _ (shift_kin z xs w m));
      tkhd = λ t k. head_shifted z 84 _ _ (omega arith) (tkhd_form (in_track met t k)) (clause 0 _ (each t k)) (tkhd_written (shift_time z) _ _ (inside t));
      mdhd = λ t k. head_shifted z 24 _ _ (omega arith) (mdhd_form (in_track met t k)) (clause 1 _ (each t k)) (mdhd_written (shift_time z) _ _ (inside t));
    }
  where
    met : Met four_rule DEPTH FILE xs
    met = file_met xs m four_rule m.four

    each : (t : ℕ) → t < tracks xs → track_times (may_shift z) (track xs t) ≡ true
    each = all_at (λ t. track_times (may_shift z) (track xs t)) (tracks xs) (clause 1 _ h)

    inside : (t : ℕ) → Kin (Made (times_leaf (shift_time z))) 4 TRAK (track xs t) (track (shift_of z xs) t)
    inside = track_kin (Made (times_leaf (shift_time z))) xs _ (shift_kin z xs w m)
