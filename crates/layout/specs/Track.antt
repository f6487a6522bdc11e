-- Where the boxes of a track stand, and that they are those of rules 2 and 3.
use Rattle.std.specs.Prelude.{ℕ, ◌+◌, ◌<◌, ◌≡◌, true, List, length, Option, Some, None}
use Rattle.codes.specs.Codes.{TRAK, TKHD, MDIA, MDHD, HDLR, MINF, DINF, STBL, STSD, STTS, STSC, STSZ, STCO}
use Rattle.boxes.specs.Boxes.{boxes, tiles}
use Rattle.boxes.specs.Seek.{find}
use Rattle.movie.specs.Ways.{to_table, to_stsd, to_dref, follow, start_along}
use Rattle.movie.specs.Movie.{mdia as mdia_of, minf as minf_of}
use Rattle.rule.specs.Rule.{all_list}
use Rattle.rule_shape.specs.Two.{shut_in}
use Rattle.rule_shape.specs.Three.{shape}
use Rattle.layout.specs.declared.gather.Slot.{Slot}
use Rattle.layout.specs.declared.track.Track.{Track}
use Rattle.layout.specs.Slots.{slot_in, Lies}

-- the slot s of the file xs is ys
pub record At (xs ys : List ℕ) (s : Slot) : Type 0 where
  pub lies : Lies xs s
  pub is : slot_in xs s ≡ ys

-- rules 2 and 3 of a container of kind k alone
pub record Has (k : ℕ) (ys : List ℕ) : Type 0 where
  pub two : tiles ys ≡ true
  pub shut : all_list (shut_in k) true (boxes ys) ≡ true
  pub three : shape k (boxes ys) ≡ true

-- of each container in a track of payload b, and of itself
pub record Shaped (b : List ℕ) : Type 0 where
  pub trak : Has TRAK b
  pub mdia : Has MDIA (find MDIA (boxes b))
  pub minf : Has MINF (find MINF (mdia_of b))
  pub dinf : Has DINF (find DINF (minf_of b))
  pub stbl : Has STBL (find STBL (minf_of b))

pub record Laid (xs b : List ℕ) (t : Track) : Type 0 where
  pub shaped : t.shaped ≡ true → Shaped b
  pub tkhd : At xs (find TKHD (boxes b)) t.tkhd
  pub mdhd : At xs (find MDHD (mdia_of b)) t.mdhd
  pub hdlr : At xs (find HDLR (mdia_of b)) t.hdlr
  pub dref : At xs (follow to_dref b) t.dref
  pub stsd : At xs (follow (to_table STSD) b) t.stsd
  pub stts : At xs (follow (to_table STTS) b) t.stts
  pub stsc : At xs (follow (to_table STSC) b) t.stsc
  pub stsz : At xs (follow (to_table STSZ) b) t.stsz
  pub stco : At xs (follow (to_table STCO) b) t.stco

-- and where its `stsd` starts in the file, of the track that is the slot o
pub record StsdPlaced (xs : List ℕ) (o : Slot) (t : Track) : Type 0 where
  pub place : 0 < length (follow to_stsd (slot_in xs o)) → t.stsd.from ≡ o.from + start_along to_stsd (slot_in xs o)

-- as a walk over plain boxes says it: all is as rules 2 and 3 want it, or it says nothing
abbrev pub LaidAs : List ℕ → Slot → Option Track → Type 0
LaidAs xs o (Some t) = Shaped (slot_in xs o) × Laid xs (slot_in xs o) t × StsdPlaced xs o t
LaidAs xs o None = Unit {0}
