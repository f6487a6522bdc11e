-- A file with another record has the same opaque boxes, but for one `stsd`. Assumes nothing.
use Prim.Native.Nat.{ℕ, ◌<◌}
use native.Mathlib.Omega.{arith}
use mathlib.Core.Path.{◌≡◌, refl}
use mathlib.Core.List.{List, [], ◌∷◌, map}
use lib.ListN.{length, take}
use Rattle.wire.specs.Tests.{if_eq}
use Rattle.codes.specs.Codes.{MOOV, TRAK, MDIA, MINF, STBL, STSD}
use Rattle.wire.specs.Numbers.{Bytes}
use Rattle.wire.proofs.Numbers.{bytes_append, bytes_take}
use Rattle.boxes.specs.declared.way.Turn.{Turn}
use Rattle.boxes.specs.Containers.{FILE, DEPTH, parent, kind_in}
use Rattle.boxes.specs.Seek.{ANY}
use Rattle.boxes.specs.Way.{edit_way, tail_by}
use Rattle.boxes.specs.Kin.{Kin}
use Rattle.boxes.specs.Boxes.{FRONT}
use Rattle.boxes.proofs.Down.{Down, last, into, Once, end_of, way_bytes, kin_way}
use Rattle.movie.specs.Ways.{to_stsd, follow}
use Rattle.movie.specs.Movie.{track, sample_table}
use Rattle.edit_replace.specs.Replace.{turn, way_to, record_at}
use Rattle.movie.specs.Named.{In}

-- ---- the way

-- to the `stsd` of track t, and on to its entry n
abbrev pub stsd_way : ℕ → List Turn
stsd_way t = turn MOOV 0 ∷ turn TRAK t ∷ map (λ c. turn c 0) to_stsd

abbrev pub to_entry : ℕ → List Turn
to_entry n = record { skip = FRONT; code = ANY; nth = n } ∷ []

pub down_stsd : (t : ℕ) → Down DEPTH FILE (stsd_way t) STBL STSD
unfolding kind_in parent if_eq
down_stsd t =
    into 5 FILE MOOV 0 (λ z. omega arith) (λ z. omega arith)
    (into 4 MOOV TRAK t (λ z. omega arith) (λ z. omega arith)
    (into 3 TRAK MDIA 0 (λ z. omega arith) (λ z. omega arith)
    (into 2 MDIA MINF 0 (λ z. omega arith) (λ z. omega arith)
    (into 1 MINF STBL 0 (λ z. omega arith) (λ z. omega arith)
    (last 0 STBL STSD 0 (λ z. omega arith) refl)))))

-- where it ends, and where it is parted
pub stsd_end : (t : ℕ) (xs : List ℕ) → end_of (stsd_way t) xs ≡ sample_table STSD (track xs t)
unfolding end_of sample_table follow track
stsd_end t xs = refl

pub by_stsd : (t n keep : ℕ) (new xs : List ℕ) → record_at (In t n) keep new xs ≡ edit_way (stsd_way t) (edit_way (to_entry n) (tail_by keep new)) xs
unfolding edit_way
by_stsd t n keep new xs = refl

pub tail_bytes : (keep : ℕ) (new : List ℕ) → Bytes new → (b : List ℕ) → Bytes b → Bytes (tail_by keep new b)
tail_bytes keep new w b v = bytes_append (take keep b) new (bytes_take keep b v) w

-- ---- the file

module _ (t n keep : ℕ) (new xs : List ℕ) (w : Bytes new) (v : Bytes xs) where
  abbrev pub entry_by : List ℕ → List ℕ
  entry_by b = edit_way (to_entry n) (tail_by keep new) b

  pub entry_bytes : (b : List ℕ) → Bytes b → Bytes (entry_by b)
  entry_bytes = way_bytes (tail_by keep new) (tail_bytes keep new w) (to_entry n)

  pub record_bytes : Bytes (record_at (In t n) keep new xs)
  record_bytes = way_bytes (tail_by keep new) (tail_bytes keep new w) (way_to t n) xs v

  module _ (s : length (record_at (In t n) keep new xs) < 4294967296) where
    -- every opaque box but one `stsd` is as it was
    pub record_kin : Kin (Once STBL STSD (end_of (stsd_way t) xs) (entry_by (end_of (stsd_way t) xs))) DEPTH FILE xs (record_at (In t n) keep new xs)
    record_kin = let q = by_stsd t n keep new xs in rw q (kin_way entry_by entry_bytes (down_stsd t) xs v (rw q at s))
