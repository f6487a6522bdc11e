-- Every track of a file, and one that isn't there. Assumes nothing.
use Prim.Native.Nat.{ℕ, ◌≤◌, ◌<◌}
use native.Mathlib.Omega.{arith}
use mathlib.Core.Path.{◌≡◌, refl, sym, ap, subst}
use mathlib.Core.List.{List}
use lib.ListN.{length}
use Rattle.codes.specs.Codes.{TRAK, TKHD, MDIA, MDHD, HDLR, MINF, STBL, STSD, STTS}
use Rattle.boxes.specs.Boxes.{boxes}
use Rattle.boxes.specs.Seek.{find}
use Rattle.boxes.proofs.Numbered.{nth_none, found_short}
use Rattle.movie.specs.Ways.{follow}
use Rattle.wire.proofs.Numbers.{word_out}
use Rattle.movie.specs.Movie.{movie, tracks, track, mdia, minf, handler, scale, movie_ticks}
use Rattle.layout.specs.declared.gather.Slot.{Slot}
use Rattle.layout.specs.declared.track.Track.{Track}
use Rattle.layout.specs.declared.tracks.Movie.{Movie}
use Rattle.layout.specs.declared.every.ReadTrack.{ReadTrack}
use Rattle.layout.specs.declared.every.Tracks.{Tracks}
use Rattle.layout.specs.Slots.{slot_in, nowhere}
use Rattle.layout.specs.Track.{At, Laid, StsdPlaced}
use Rattle.layout.specs.Tracks.{track_slot, LaidOut, Spread}
use Rattle.layout.specs.Every.{blank_of, told_in, track_of, ReadAt, TrakAt, TrackAt, TracksAt}
use Rattle.layout.proofs.Few.{by_four, nil_of}
use Rattle.layout.proofs.LayingOut.{slot_at}

-- ---- a track that isn't there

empty_at : (xs ys : List ℕ) → length ys ≡ 0 → At xs ys nowhere
empty_at xs ys z = record { lies = record { order = omega arith; inside = omega arith }; is = sym (nil_of ys z) }

pub blank_at : (xs : List ℕ) (t : ℕ) {k : ReadTrack} → k ≡ blank_of → tracks xs ≤ t → TrackAt xs t k
unfolding track follow handler scale movie_ticks
blank_at xs t e h =
    let b = track xs t in
    let n : length b ≡ 0 = sym (ap length (nth_none TRAK t (movie xs) h)) in
    let d = found_short MDIA 0 b refl in
    let i = found_short MINF 0 (find MDIA (boxes b)) refl in
    let s = found_short STBL 0 (find MINF (mdia b)) refl in
    let table : (c : ℕ) → At xs (find c (boxes (find STBL (minf b)))) nowhere = λ c. empty_at xs _ (omega (arith, found_short c 0 (find STBL (minf b)) refl)) in
    subst (TrackAt xs t) (sym e) (record {
      handler = sym (word_out 4 (find HDLR (mdia b)) 8 (omega (arith, found_short HDLR 0 (find MDIA (boxes b)) refl)));
      scale = sym (word_out 4 (find MDHD (mdia b)) 12 (omega (arith, found_short MDHD 0 (find MDIA (boxes b)) refl)));
      ticks = sym (word_out 4 (find TKHD (boxes b)) 20 (omega (arith, found_short TKHD 0 b refl)));
      stsd = table STSD;
      stts = table STTS;
      place = λ z. absurd (omega (arith, found_short STSD 0 (find STBL (minf b)) refl));
    })

-- ---- one that is

pub told_at : {xs : List ℕ} {o : Slot} {t : Track} → Laid xs (slot_in xs o) t → StsdPlaced xs o t → ReadAt xs o (told_in xs t)
unfolding handler scale movie_ticks
told_at l p =
    record { handler = rw l.hdlr.is; scale = rw l.mdhd.is; ticks = rw l.tkhd.is; stsd = l.stsd; stts = l.stts; place = p.place }

-- track i of the file, by its slot
pub trak_at : {xs : List ℕ} {m : Movie} → LaidOut xs m → Spread xs m → (i : ℕ) → i < 4 → TrakAt xs i (track_slot m i)
trak_at l p i h = record { at = slot_at l i h; place = λ k. p.place i h k }

pub track_read : {xs : List ℕ} {t : ℕ} {s : Slot} {k : ReadTrack} → TrakAt xs t s → t < tracks xs → ReadAt xs s k → TrackAt xs t k
track_read a h r = rw (a.at.is, a.place h) at r

-- ---- the one of a number

pub track_of_lem : {xs : List ℕ} {e : Tracks} → TracksAt xs e → (t : ℕ) → t < 4 → {k : ReadTrack} → k ≡ track_of e t → TrackAt xs t k
unfolding track_of
track_of_lem {xs} k t h q = subst (TrackAt xs t) (sym q) (by_four (λ j s. TrackAt xs j s) k.one k.two k.three k.four t h)
