-- What every track of a file says, and where its lists stand.
use Rattle.std.specs.Prelude.{ℕ, ◌+◌, ◌<◌, ◌≡◌, List, length}
use Rattle.wire.specs.Tests.{if_eq}
use Rattle.wire.specs.Numbers.{word}
use Rattle.codes.specs.Codes.{MOOV, TRAK, STTS}
use Rattle.boxes.specs.Boxes.{boxes}
use Rattle.boxes.specs.Seek.{start_in}
use Rattle.movie.specs.Ways.{to_stsd, to_table, follow, start_along}
use Rattle.movie.specs.Movie.{movie, tracks, track, handler as handler_of, scale as scale_of, movie_ticks}
use Rattle.layout.specs.declared.gather.Slot.{Slot}
use Rattle.layout.specs.declared.track.Track.{Track}
use Rattle.layout.specs.declared.every.ReadTrack.{ReadTrack}
use Rattle.layout.specs.declared.every.Tracks.{Tracks}
use Rattle.layout.specs.Slots.{slot_in, nowhere}
use Rattle.layout.specs.Track.{At}

-- a track without boxes
abbrev pub blank_of : ReadTrack
blank_of = record { handler = 0; scale = 0; ticks = 0; stsd = nowhere; stts = nowhere }

-- from where its boxes stand
abbrev pub told_in : List ℕ → Track → ReadTrack
told_in xs t =
    record {
      handler = word 4 (slot_in xs t.hdlr) 8;
      scale = word 4 (slot_in xs t.mdhd) 12;
      ticks = word 4 (slot_in xs t.tkhd) 20;
      stsd = t.stsd;
      stts = t.stts;
    }

-- the track whose payload b starts at place p of the file
pub record ToldAt (xs b : List ℕ) (p : ℕ) (k : ReadTrack) : Type 0 where
  pub handler : k.handler ≡ handler_of b
  pub scale : k.scale ≡ scale_of b
  pub ticks : k.ticks ≡ movie_ticks b
  pub stsd : At xs (follow to_stsd b) k.stsd
  pub stts : At xs (follow (to_table STTS) b) k.stts
  pub place : 0 < length (follow to_stsd b) → k.stsd.from ≡ p + start_along to_stsd b

-- the one whose payload is a slot
abbrev pub ReadAt : List ℕ → Slot → ReadTrack → Type 0
ReadAt xs o k = ToldAt xs (slot_in xs o) o.from k

-- where the payload of track t, from 0, starts
abbrev pub start_of : List ℕ → ℕ → ℕ
start_of xs t = start_in MOOV 0 (boxes xs) + start_in TRAK t (movie xs)

-- the slot s is the payload of track t
pub record TrakAt (xs : List ℕ) (t : ℕ) (s : Slot) : Type 0 where
  pub at : At xs (track xs t) s
  pub place : t < tracks xs → s.from ≡ start_of xs t

-- track t of the file
abbrev pub TrackAt : List ℕ → ℕ → ReadTrack → Type 0
TrackAt xs t k = ToldAt xs (track xs t) (start_of xs t) k

-- the one of a number, of four
unfoldable pub track_of : Tracks → ℕ → ReadTrack
track_of e t = if_eq t 0 e.one (if_eq t 1 e.two (if_eq t 2 e.three e.four))

-- so many without boxes
abbrev pub blanks_of : ℕ → Tracks
blanks_of n = record { count = n; one = blank_of; two = blank_of; three = blank_of; four = blank_of }

-- with the track k in place of the one of number t
unfoldable pub with_track : Tracks → ℕ → ReadTrack → Tracks
with_track e t k =
    if_eq t 0 (record { count = e.count; one = k; two = e.two; three = e.three; four = e.four })
    (if_eq t 1 (record { count = e.count; one = e.one; two = k; three = e.three; four = e.four })
    (if_eq t 2 (record { count = e.count; one = e.one; two = e.two; three = k; four = e.four })
    (record { count = e.count; one = e.one; two = e.two; three = e.three; four = k })))

pub record TracksAt (xs : List ℕ) (e : Tracks) : Type 0 where
  pub count : e.count ≡ tracks xs
  pub one : TrackAt xs 0 e.one
  pub two : TrackAt xs 1 e.two
  pub three : TrackAt xs 2 e.three
  pub four : TrackAt xs 3 e.four
