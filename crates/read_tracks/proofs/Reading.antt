-- Laws of reading a track. Assumes nothing.
use Rattle.std.specs.Prelude.{Option, Some, None, Result, Ok, Err}
use Rattle.rule.specs.declared.Refusal.{Refusal}
use Rattle.rule.specs.Answers.{refusal, Refused}
use Prim.Native.Nat.{ℕ, zero, suc, ◌+◌, ◌-◌, ◌≤◌, ◌<◌}
use native.Mathlib.Omega.{arith}
use native.Mathlib.Numerals.{add-one}
use mathlib.Core.Path.{◌≡◌, refl, sym, ap, ◌∙◌}
use mathlib.Core.Bool.{Bool, true, false}
use mathlib.Core.List.{List, [], ◌∷◌, ◌++◌}
use lib.ListN.{length, get_or, drop, set, length-append}
use lib.Seq.{drop-cons, set_at, sets-eq, append_snoc}
use Rattle.wire.specs.Writing.{Wrote}
use Rattle.wire.specs.Tests.{pick}
use Rattle.wire.proofs.Clauses.{le_is, clause}
use Rattle.codes.specs.Codes.{STTS, STCO}
use Rattle.sample_tables.specs.declared.time.MediaTicks.{MediaTicks}
use Rattle.sample_tables.specs.Tables.{Table, items, field}
use Rattle.sample_tables.specs.Times.{timed, media_ticks}
use Rattle.rule_shape.proofs.Descent.{tracks_few}
use Rattle.layout.specs.declared.gather.Slot.{Slot}
use Rattle.layout.specs.declared.track.Track.{Track}
use Rattle.layout.specs.declared.tracks.Movie.{Movie}
use Rattle.layout.specs.declared.every.ReadTrack.{ReadTrack}
use Rattle.layout.specs.Slots.{slot_in}
use Rattle.layout.specs.Track.{At, Laid}
use Rattle.layout.specs.Tracks.{track_slot, LaidOut}
use Rattle.layout.specs.Every.{ToldAt}
use Rattle.layout.proofs.LayingOut.{slot_at}
use Rattle.judge.specs.Acceptance.{Meets}
use Rattle.movie.specs.declared.MovieTicks.{MovieTicks}
use Rattle.movie.specs.Movie.{tracks, track, sample_table, handler, scale, movie_ticks}
use Rattle.read_tracks.specs.Tracks.{Readable, Numbered, NumberedAs}
use Rattle.read_tracks.specs.Reads.{is_track, track_body, media_of, movie_of, said_by, numbers_of, offsets_to, offsets_of}
use Rattle.read_tracks.specs.declared.said.Said.{Said}
use Rattle.read_tracks.proofs.Accepted.{readable}

-- ---- the track that is named

module _ (xs : List ℕ) (t : ℕ) where
  module _ {i : Bool} (e : i ≡ is_track xs t) (z : i ≡ true) where
    pub track_first : 1 ≤ t
    unfolding is_track
    track_first = le_is _ _ (clause 0 _ (sym e ∙ z))

    pub track_last : t ≤ tracks xs
    unfolding is_track
    track_last = le_is _ _ (clause 1 _ (sym e ∙ z))

    pub track_four : Meets xs → t - 1 < 4
    track_four m = omega (arith, track_first, track_last, (tracks_few xs m.three).1)

    -- where its boxes stand
    pub track_slot_lem : Meets xs → {m : Movie} → LaidOut xs m → {s : Slot} → s ≡ track_slot m (t - 1) → At xs (track xs (t - 1)) s
    track_slot_lem m l e = rw e (slot_at l (t - 1) (track_four m))

    pub track_numbered : {s : Slot} → At xs (track xs (t - 1)) s → {k : Track} → Laid xs (slot_in xs s) k → Numbered xs t k
    track_numbered a l = record { there = sym e ∙ z; first = track_first; last = track_last; laid = rw a.is at l }

    -- it can be read
    pub track_readable : Meets xs → {b : List ℕ} → b ≡ track xs (t - 1) → Readable b
    track_readable m f = rw f (readable xs m (t - 1) (omega (arith, track_first, track_last)))

  -- none of that number
  pub track_none : {i : Bool} → i ≡ is_track xs t → i ≡ false → is_track xs t ≡ false
  track_none e z = sym e ∙ z

  -- back from the answer
  module _ (r : Option Track) (a : NumberedAs xs t r) where
    pub numbered_at : {k : Track} → r ≡ Some k → Numbered xs t k
    unfolding NumberedAs
    numbered_at e = rw e at a

    pub numbered_none : r ≡ None → is_track xs t ≡ false
    unfolding NumberedAs
    numbered_none e = rw e at a

  pub numbered_readable : Meets xs → {k : Track} → Numbered xs t k → Readable (track_body xs t)
  numbered_readable m n = readable xs m (t - 1) (omega (arith, n.first, n.last))

-- ---- a choice that code made by the answer of a test

module _ {A : Type 0} (t : Bool) (a b : A) {i : Bool} (e : i ≡ t) where
  pub pick_nay : i ≡ false → b ≡ pick t a b
  pick_nay z = rw (sym e ∙ z)

  pub pick_yea : i ≡ true → {r : A} → r ≡ a → r ≡ pick t a b
  pick_yea z f = rw (sym e ∙ z) f

-- what a track said, or that there is none, back from the answer
module _ (t : Bool) (s : Said) {r : Result Said Refusal} (e : r ≡ pick t (Ok s) (Refused 20 0)) where
  pub said_ok : {v : Said} → r ≡ Ok v → (t ≡ true) × (v ≡ s)
  said_ok {v} z = go t e z
    where
      go : (b : Bool) → r ≡ pick b (Ok s) (Refused 20 0) → r ≡ Ok v → (b ≡ true) × (v ≡ s)
      go true e z = (refl, cc)
      go false e z = (cc, cc)

  pub said_err : {f : Refusal} → r ≡ Err f → (t ≡ false) × (f ≡ refusal 20 0)
  said_err {f} z = go t e z
    where
      go : (b : Bool) → r ≡ pick b (Ok s) (Refused 20 0) → r ≡ Err f → (b ≡ false) × (f ≡ refusal 20 0)
      go true e z = (cc, cc)
      go false e z = (refl, cc)

-- ---- what it says

pub told_times : {xs b : List ℕ} {p : ℕ} {k : ReadTrack} → ToldAt xs b p k → {ys : List ℕ} → ys ≡ slot_in xs k.stts → ys ≡ sample_table STTS b
unfolding sample_table
told_times a f = f ∙ a.stts.is

pub laid_offsets : {xs b : List ℕ} {k : Track} → Laid xs b k → {ys : List ℕ} → ys ≡ slot_in xs k.stco → ys ≡ sample_table STCO b
unfolding sample_table
laid_offsets l f = f ∙ l.stco.is

module _ (b : List ℕ) where
  -- its `stts` is found as the rules say
  pub times_table : {stts : List ℕ} → stts ≡ sample_table STTS b → Readable b → Table 8 stts × (timed stts ≤ 65536)
  times_table f r = rw f (r.times, r.few)

  pub media_is : {stts : List ℕ} → stts ≡ sample_table STTS b → {r : MediaTicks} → r.0 ≡ media_ticks stts → r ≡ media_of b
  media_is f e = ap (λ n. record { 0 = n }) (rw f at e)

  pub movie_is : {r : MovieTicks} → r.0 ≡ movie_ticks b → r ≡ movie_of b
  movie_is e = ap (λ n. record { 0 = n }) e

  pub said_is : {h s : ℕ} {m : MediaTicks} {w : MovieTicks} → h ≡ handler b → m ≡ media_of b → s ≡ scale b → w.0 ≡ movie_ticks b → record { handler = h; media = m; scale = s; movie = w } ≡ said_by b
  said_is f g h k = rw (f, g, h, movie_is k)

pub length_said : (s : Said) → length (numbers_of s) ≡ 4
unfolding numbers_of
length_said s = refl

pub wrote_said : (s : Said) (out : List ℕ) → 4 ≤ length out → Wrote (numbers_of s) out 4 (set (set (set (set out 0 s.handler) 1 s.media.0) 2 s.scale) 3 s.movie.0)
unfolding numbers_of
wrote_said s out k = record { span = refl; is = sets-eq (s.handler ∷ s.media.0 ∷ s.scale ∷ s.movie.0 ∷ []) out 0 k }

pub said_as : {b d : List ℕ} → b ≡ d → {s : Said} → s ≡ said_by b → {out left : List ℕ} {n : ℕ} → Wrote (numbers_of s) out n left → Wrote (numbers_of (said_by d)) out n left
said_as e f w = rw (f, e) at w

-- ---- the offsets

module _ (stco : List ℕ) where
  pub length_offsets : (n : ℕ) → length (offsets_to stco n) ≡ n
  unfolding offsets_to
  length_offsets zero = refl
  length_offsets (suc n) = length-append (offsets_to stco n) (field 4 0 stco n ∷ []) ∙ omega (arith, length_offsets n)

  pub offsets_none : (list : List ℕ) → list ≡ offsets_to stco 0 ++ drop 0 list
  unfolding offsets_to
  offsets_none list = refl

  pub offsets_more : (list : List ℕ) (i : ℕ) {mid : List ℕ} {v : ℕ} → mid ≡ offsets_to stco i ++ drop i list → v ≡ field 4 0 stco i → i < length list → set mid i v ≡ offsets_to stco (i + 1) ++ drop (i + 1) list
  unfolding offsets_to
  offsets_more list i e f h =
      rw (e, f, add-one i, drop-cons list i 0, set_at (offsets_to stco i) (get_or list i 0) (drop (suc i) list) (field 4 0 stco i) i (length_offsets i))
      (sym (append_snoc (offsets_to stco i) (field 4 0 stco i) (drop (suc i) list)))

  pub offsets_all : (list : List ℕ) {i n : ℕ} {mid : List ℕ} → mid ≡ offsets_to stco i ++ drop i list → i ≡ n → n ≡ items stco → Wrote (offsets_to stco (items stco)) list n mid
  offsets_all list e f g = record { span = g ∙ sym (length_offsets (items stco)); is = e ∙ rw (f, g) }

-- of the track with payload b
module _ (b : List ℕ) {stco : List ℕ} (e : stco ≡ sample_table STCO b) where
  pub offsets_length : {n : ℕ} → n ≡ items stco → n ≡ length (offsets_of b)
  unfolding offsets_of
  offsets_length g = g ∙ sym (length_offsets (sample_table STCO b) (items (sample_table STCO b)) ∙ rw e)

  pub offsets_wrote : {list after : List ℕ} {n : ℕ} → Wrote (offsets_to stco (items stco)) list n after → Wrote (offsets_of b) list n after
  unfolding offsets_of
  offsets_wrote w = rw e at w

pub offsets_table : {b stco : List ℕ} → stco ≡ sample_table STCO b → Readable b → Table 4 stco
offsets_table e r = rw e r.offsets
