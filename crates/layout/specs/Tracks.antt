-- Where the tracks of a file stand, and that the file and its `moov` have the boxes of rules 2 and 3.
use Rattle.std.specs.Prelude.{ℕ, ◌+◌, ◌<◌, ◌≡◌, Bool, true, List, [], ◌∷◌, length, Option, Some, None}
use Rattle.wire.specs.Tests.{if_eq}
use Rattle.wire.specs.Clauses.{is_eq, is_le, every}
use Rattle.codes.specs.Codes.{FTYP, MOOV, MDAT, MVHD, TRAK}
use Rattle.boxes.specs.declared.walk.BoxAt.{BoxAt}
use Rattle.boxes.specs.Boxes.{boxes}
use Rattle.boxes.specs.Containers.{FILE}
use Rattle.boxes.specs.Seek.{find, start_in}
use Rattle.movie.specs.Movie.{movie, tracks as tracks_of, track}
use Rattle.rule_shape.specs.Three.{first}
use Rattle.layout.specs.declared.gather.Slot.{Slot}
use Rattle.layout.specs.declared.gather.Want.{Want}
use Rattle.layout.specs.declared.gather.Five.{Five}
use Rattle.layout.specs.declared.moov.Ends.{Ends}
use Rattle.layout.specs.declared.moov.Four.{Four}
use Rattle.layout.specs.declared.tracks.Movie.{Movie}
use Rattle.layout.specs.Slots.{first_with, note_of, Stands}
use Rattle.layout.specs.Track.{At, Has}

-- the file as a slot
abbrev pub whole_of : List ℕ → Slot
whole_of xs = record { n = 1; from = 0; to = length xs }

-- track i of a `moov`, from 0
abbrev pub wanted : ℕ → Want
wanted i = record { code = TRAK; nth = i }

-- of so many boxes one that stands there
abbrev pub slot_with : ℕ → Ends → Slot
slot_with n e = record { n = n; from = e.from; to = e.to }

-- what was found of a code, and of tracks with one count
abbrev pub five_of : Slot → Four → Bool → Five
five_of i f t = record { a = i; b = slot_with f.n f.one; c = slot_with f.n f.two; d = slot_with f.n f.three; e = slot_with f.n f.four; tiled = t; shut = t }

-- the first four tracks past one more box of a part that starts at place p
pub record Further (f : Four) (b : BoxAt) (p : ℕ) (r : Four) : Type 0 where
  pub one : slot_with r.n r.one ≡ note_of (slot_with f.n f.one) (wanted 0) b p
  pub two : slot_with r.n r.two ≡ note_of (slot_with f.n f.two) (wanted 1) b p
  pub three : slot_with r.n r.three ≡ note_of (slot_with f.n f.three) (wanted 2) b p
  pub four : slot_with r.n r.four ≡ note_of (slot_with f.n f.four) (wanted 3) b p

-- the slot of track i, from 0
unfoldable pub track_slot : Movie → ℕ → Slot
track_slot m i = if_eq i 0 m.one (if_eq i 1 m.two (if_eq i 2 m.three m.four))

-- from what was found of the file and of its `moov`: boxes tile the file, and it has one `ftyp`, which is first, and one `moov`; boxes
-- tile that too, none of them is open, and it has one `mvhd` and 1 to 4 tracks
abbrev pub framed_by : List ℕ → Five → Five → Bool
framed_by xs f m =
    every
    (f.tiled
    ∷ is_eq f.a.n 1
    ∷ is_eq f.b.n 1
    ∷ m.tiled
    ∷ m.shut
    ∷ is_eq m.a.n 1
    ∷ is_le 1 m.b.n
    ∷ is_le m.b.n 4
    ∷ is_eq (first (boxes xs)) FTYP
    ∷ [])

-- the first `mdat` of the file
abbrev pub FirstMdat : List ℕ → Slot → Type 0
FirstMdat xs s = Stands xs (whole_of xs) (first_with MDAT) s

-- rules 2 and 3 of the file and of its `moov`, of these two alone
pub record Framed (xs : List ℕ) : Type 0 where
  pub file : Has FILE xs
  pub moov : Has MOOV (find MOOV (boxes xs))

pub record LaidOut (xs : List ℕ) (m : Movie) : Type 0 where
  pub shaped : m.shaped ≡ true → Framed xs
  pub tracks : m.tracks ≡ tracks_of xs
  pub ftyp : At xs (find FTYP (boxes xs)) m.ftyp
  pub moov : At xs (find MOOV (boxes xs)) m.moov
  pub mdat : FirstMdat xs m.mdat
  pub mvhd : At xs (find MVHD (movie xs)) m.mvhd
  pub one : At xs (track xs 0) m.one
  pub two : At xs (track xs 1) m.two
  pub three : At xs (track xs 2) m.three
  pub four : At xs (track xs 3) m.four

-- and where the payload of each track starts in the file
pub record Spread (xs : List ℕ) (m : Movie) : Type 0 where
  pub place : (i : ℕ) → i < 4 → i < tracks_of xs → (track_slot m i).from ≡ start_in MOOV 0 (boxes xs) + start_in TRAK i (movie xs)

-- as a walk over plain boxes says it: all is as rules 2 and 3 want it, or it says nothing
abbrev pub LaidOutAs : List ℕ → Option Movie → Type 0
LaidOutAs xs (Some m) = (m.shaped ≡ true) × LaidOut xs m × Spread xs m
LaidOutAs xs None = Unit {0}
