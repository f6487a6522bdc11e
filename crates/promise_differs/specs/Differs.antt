-- "only the named fields, enclosing sizes, chunk offsets and, for a move, the box order differ". Files that `Kin` relates have the
-- same boxes in the same order and forms, of the sizes that their bodies give, but that a `moov` of size 0 has its true size; these say what differs in the body of an opaque box.
use Rattle.std.specs.Prelude.{ℕ, ◌+◌, ◌-◌, ◌≡◌, true, false, List, ◌⊎◌, ℤ, length, take, drop}
use Rattle.codes.specs.Codes.{TRAK, STBL, STSD, STCO}
use Rattle.boxes.specs.Boxes.{HEAD, FRONT, boxes}
use Rattle.boxes.specs.Containers.{FILE, DEPTH}
use Rattle.boxes.specs.Seek.{ANY}
use Rattle.boxes.specs.Kin.{Kin}
use Rattle.boxes.specs.Way.{over_turn, tail_by}
use Rattle.movie.specs.Movie.{track, sample_table}
use Rattle.movie.specs.Stsds.{stsds}
use Rattle.movie.specs.Named.{spot_in, In}
use Rattle.entry_heads.specs.Heads.{head_size}
use Rattle.edit_offsets.specs.Close.{closed}
use Rattle.edit_move.specs.Moving.{moov_second}
use Rattle.edit_replace.specs.Replace.{kind_at}
use Rattle.edit_shift.specs.Shift.{CREATION, has_times}
use Rattle.promise_kept.specs.Edits.{Edit, shift, replace, move}
use Rattle.promise_differs.specs.Times.{TimesShifted}
use Rattle.promise_differs.specs.OneEntry.{OneEntry}

-- two bodies of the same length, with the same bytes before place `from` and the same from place `to` on
pub record But (from to : ℕ) (b b' : List ℕ) : Type 0 where
  pub long : length b ≡ length b'
  pub before : take from b ≡ take from b'
  pub behind : drop to b ≡ drop to b'

-- an `stco`: all but the chunk offsets, which follow version, flags and count
abbrev pub ButOffsets : List ℕ → List ℕ → Type 0
ButOffsets b b' = But 8 (length b) b b'

-- a header: all but "creation time at 4, modification at 8"
abbrev pub ButTimes : List ℕ → List ℕ → Type 0
ButTimes b b' = But CREATION (CREATION + 8) b b'

-- ---- the boxes with such fields, by the container's kind k and the code c

-- chunk offsets: `stco` in `stbl`
abbrev pub HasOffsets : ℕ → ℕ → Type 0
HasOffsets k c = (k ≡ STBL) × (c ≡ STCO)

-- sample entries: `stsd` in `stbl`
abbrev pub HasEntries : ℕ → ℕ → Type 0
HasEntries k c = (k ≡ STBL) × (c ≡ STSD)

-- ---- a move

-- chunk offsets; every other opaque box is the same
pub record OnlyOffsets (k c : ℕ) (b b' : List ℕ) : Type 0 where
  pub offsets : HasOffsets k c → ButOffsets b b'
  pub rest : (HasOffsets k c → ⊥) → b ≡ b'

-- ys is xs closed, with its boxes in their new order, and then chunk offsets differ
pub record Moves (xs ys : List ℕ) : Type 0 where
  pub mid : List ℕ
  pub order : boxes mid ≡ moov_second (boxes (closed xs))
  pub offsets : Kin OnlyOffsets DEPTH FILE mid ys

-- ---- a shift

-- times; every other opaque box is the same, and so are chunk offsets, since nothing moves
pub record OnlyTimes (k c : ℕ) (b b' : List ℕ) : Type 0 where
  pub times : has_times k c ≡ true → ButTimes b b'
  pub rest : has_times k c ≡ false → b ≡ b'

-- ys is xs with other times, each by z minutes
pub record Shifts (z : ℤ) (xs ys : List ℕ) : Type 0 where
  pub differs : Kin OnlyTimes DEPTH FILE xs ys
  pub times : TimesShifted z xs ys

-- ---- a replacement

-- an `stsd` with another record behind the first `keep` bytes of the payload of its entry n, from 0
abbrev pub with_record : (n keep : ℕ) (new b : List ℕ) → List ℕ
with_record n keep new b = over_turn (record { skip = FRONT; code = ANY; nth = n }) (tail_by keep new) b

-- one record in an `stsd`, and chunk offsets; every other opaque box is the same
pub record OnlyRecord (n keep : ℕ) (new : List ℕ) (k c : ℕ) (b b' : List ℕ) : Type 0 where
  pub offsets : HasOffsets k c → ButOffsets b b'
  pub entry : HasEntries k c → (b ≡ b') ⊎ (b' ≡ with_record n keep new b)
  pub rest : (HasOffsets k c → ⊥) → (HasEntries k c → ⊥) → b ≡ b'

-- how many bytes of the payload of entry i stand before its record
abbrev pub kept_of : List ℕ → ℕ → ℕ
kept_of xs i = head_size (kind_at xs i) - HEAD

-- the depth of a track: the containers from `trak` on
abbrev pub TRACK : ℕ
TRACK = DEPTH - 2

-- ys is xs with another record of entry i, which is entry n of track t, both from 0: that track has the record there, and in any
-- other track only chunk offsets differ
pub record Replaces (xs : List ℕ) (i : ℕ) (new ys : List ℕ) : Type 0 where
  pub t : ℕ
  pub n : ℕ
  pub spot : spot_in (stsds xs) (i - 1) ≡ In t n
  pub differs : Kin (OnlyRecord n (kept_of xs i) new) DEPTH FILE xs ys
  pub there : sample_table STSD (track ys t) ≡ with_record n (kept_of xs i) new (sample_table STSD (track xs t))
  pub elsewhere : (u : ℕ) → (u ≡ t → ⊥) → Kin OnlyOffsets TRACK TRAK (track xs u) (track ys u)

-- and so, by the sheet's list, entry i alone
pub record EntryReplaced (xs : List ℕ) (i : ℕ) (new ys : List ℕ) : Type 0 where
  pub differs : Replaces xs i new ys
  pub entry : OneEntry xs i new ys

-- ---- any edit

abbrev pub Differs : Edit → List ℕ → List ℕ → Type 0
Differs (shift z) xs ys = Shifts z xs ys
Differs (replace i new) xs ys = EntryReplaced xs i new ys
Differs move xs ys = Moves xs ys
