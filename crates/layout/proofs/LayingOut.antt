-- The movie from what was gathered of the file and of its `moov`. Assumes nothing.
use Prim.Native.Nat.{ℕ, ◌+◌, ◌-◌, ◌<◌}
use native.Mathlib.Omega.{arith}
use mathlib.Core.Path.{◌≡◌, sym, ap, subst, ◌∙◌}
use mathlib.Core.Bool.{Bool, true}
use mathlib.Core.List.{List}
use lib.ListN.{length}
use lib.Seq.{take-length}
use Rattle.wire.proofs.Tests.{lt_or}
use Rattle.wire.proofs.Clauses.{eq_is, le_is, clause}
use Rattle.codes.specs.Codes.{FTYP, MOOV, MDAT, MVHD, TRAK}
use Rattle.boxes.specs.Boxes.{boxes}
use Rattle.boxes.specs.Containers.{FILE}
use Rattle.boxes.specs.Seek.{count, find, nth, start_in}
use Rattle.movie.specs.Movie.{movie, tracks, track}
use Rattle.layout.specs.declared.gather.Slot.{Slot}
use Rattle.layout.specs.declared.gather.Five.{Five}
use Rattle.layout.specs.declared.tracks.Movie.{Movie}
use Rattle.layout.specs.Slots.{slot_in, first_with, Stands, Gathered}
use Rattle.layout.specs.Track.{At, Has}
use Rattle.layout.specs.Tracks.{whole_of, wanted, track_slot, framed_by, Framed, LaidOut, Spread}
use Rattle.layout.proofs.Shaped.{none_open, file_shut, moov_shape, file_shape, one_of}
use Rattle.layout.proofs.Laying.{at_in, place_in}
use Rattle.layout.proofs.Few.{by_four, no_boxes, none_counted}

whole_is : (xs : List ℕ) → slot_in xs (whole_of xs) ≡ xs
whole_is xs = let z : length xs - 0 ≡ length xs = omega arith in rw z (take-length xs)

pub all_is : {xs : List ℕ} {s : Slot} → s ≡ whole_of xs → slot_in xs s ≡ xs
all_is {xs} e = ap (slot_in xs) e ∙ whole_is xs

module _ {xs : List ℕ} {s : Slot} (e : s ≡ whole_of xs) {f m : Five} (gf : Gathered xs s (first_with FTYP) (first_with MOOV) (first_with MDAT) (first_with MDAT)
    (first_with MDAT) f)
    (gm : Gathered xs f.b (first_with MVHD) (wanted 0) (wanted 1) (wanted 2) (wanted 3) m) where
  moov_at : At xs (find MOOV (boxes xs)) f.b
  moov_at = at_in gf.second (all_is e)

  track_at : {i : ℕ} {s : Slot} → Stands xs f.b (wanted i) s → At xs (track xs i) s
  unfolding track
  track_at {i} k = record { lies = k.lies; is = k.is ∙ ap (λ (ys : List ℕ). nth TRAK i (boxes ys)) moov_at.is }

  module _ {w : Bool} (h : w ≡ framed_by xs f m) where
    framed : w ≡ true → Framed xs
    framed z =
        let y : framed_by xs f m ≡ true = sym h ∙ z in
        record {
          file = subst (Has FILE) (all_is e) (record {
            two = gf.tiled (clause 0 _ y);
            shut = file_shut _;
            three = file_shape _ (one_of gf.first (eq_is _ _ (clause 1 _ y))) (one_of gf.second (eq_is _ _ (clause 2 _ y))) (rw (all_is e) (eq_is _ _ (clause 8 _ y)));
          });
          moov = subst (Has MOOV) moov_at.is (record {
            two = gm.tiled (clause 3 _ y);
            shut = none_open MOOV _ (gm.shut (clause 4 _ y));
            three = moov_shape _ (one_of gm.first (eq_is _ _ (clause 5 _ y))) (rw (← gm.second.counted) (le_is _ _ (clause 6 _ y))) (rw (← gm.second.counted) (le_is _ _ (clause 7 _ y)));
          });
        }

    pub laid_out : LaidOut xs (record {
      shaped = w;
      tracks = m.b.n;
      ftyp = f.a;
      moov = f.b;
      mdat = f.c;
      mvhd = m.a;
      one = m.b;
      two = m.c;
      three = m.d;
      four = m.e;
    })
    laid_out =
        record {
          shaped = framed;
          tracks = gm.second.counted ∙ ap (λ (ys : List ℕ). count TRAK (boxes ys)) moov_at.is;
          ftyp = at_in gf.first (all_is e);
          moov = moov_at;
          mdat = subst (λ (o : Slot). Stands xs o (first_with MDAT) f.c) e gf.third;
          mvhd = at_in gm.first moov_at.is;
          one = track_at gm.second;
          two = track_at gm.third;
          three = track_at gm.fourth;
          four = track_at gm.fifth;
        }

  -- ---- places

  moov_place : 0 < tracks xs → f.b.from ≡ start_in MOOV 0 (boxes xs)
  moov_place h =
      let n : 0 < length (find MOOV (boxes xs)) =
      lt_or 0 (length (find MOOV (boxes xs))) (λ k. k) (λ k. absurd (omega (
        arith,
        ap (count TRAK) (no_boxes (find MOOV (boxes xs))
            (omega arith)),
        none_counted TRAK,
      ))) in
      place_in MOOV gf.second (all_is e) n ∙ ap (λ (p : ℕ). p + start_in MOOV 0 (boxes xs)) (ap (λ (w : Slot). w.from) e) ∙ omega arith

  place_of : {i : ℕ} {w : Slot} → Stands xs f.b (wanted i) w → i < tracks xs → w.from ≡ start_in MOOV 0 (boxes xs) + start_in TRAK i (movie xs)
  place_of {i} {w} k h =
      let c = ap (λ (ys : List ℕ). count TRAK (boxes ys)) moov_at.is in
      let p = ap (λ (ys : List ℕ). start_in TRAK i (boxes ys)) moov_at.is in
      omega (arith, k.place (omega (arith, k.counted)), moov_place (omega arith))

  pub spread : (w : Bool) → Spread xs (record {
    shaped = w;
    tracks = m.b.n;
    ftyp = f.a;
    moov = f.b;
    mdat = f.c;
    mvhd = m.a;
    one = m.b;
    two = m.c;
    three = m.d;
    four = m.e;
  })
  unfolding track_slot
  spread w =
      record {
        place = λ i h k.
            by_four (λ (j : ℕ) (s : Slot). j < tracks xs → s.from ≡ start_in MOOV 0 (boxes xs) + start_in TRAK j (movie xs)) (place_of gm.second) (place_of gm.third)
            (place_of gm.fourth) (place_of gm.fifth) i h k;
      }

-- ---- a track by its number

pub slot_at : {xs : List ℕ} {m : Movie} → LaidOut xs m → (i : ℕ) → i < 4 → At xs (track xs i) (track_slot m i)
unfolding track_slot
slot_at {xs} l i h = by_four (λ j s. At xs (track xs j) s) l.one l.two l.three l.four i h
