-- The entry of a number in a track, in the file. Assumes nothing.
use Rattle.std.specs.Prelude.{Option, Some, None}
use Prim.Native.Nat.{ℕ, ◌+◌, ◌<◌}
use native.Mathlib.Omega.{arith}
use mathlib.Core.Path.{◌≡◌, sym, ap, ◌∙◌}
use mathlib.Core.List.{List, [], ◌∷◌, ◌++◌}
use lib.ListN.{length, take, drop, length-drop}
use lib.Seq.{drop-drop}
use Rattle.codes.specs.Codes.{MOOV, TRAK}
use Rattle.wire.specs.Numbers.{Bytes}
use Rattle.wire.proofs.Numbers.{bytes_drop}
use Rattle.boxes.specs.declared.walk.BoxAt.{BoxAt}
use Rattle.boxes.specs.Box.{header}
use Rattle.boxes.specs.Boxes.{boxes, FRONT}
use Rattle.boxes.specs.Walk.{payload, box_at}
use Rattle.boxes.specs.Seek.{ANY, find, start_in, Cut}
use Rattle.boxes.proofs.Lying.{Lies, bytes_lies, lies_in, lies_drop, lies_found}
use Rattle.boxes.proofs.Cutting.{length_box, lies_box}
use Rattle.movie.specs.declared.entry.EntryAt.{EntryAt}
use Rattle.movie.specs.Ways.{to_stsd, follow, start_along}
use Rattle.movie.specs.Movie.{movie, track}
use Rattle.movie.specs.Stsds.{stsds}
use Rattle.movie.specs.Entries.{Entry, entries_of, entries}
use Rattle.movie.specs.Named.{list_in, stsd_at, list_start, InTrack, Placed, PlacedAs, EntryIs, NamedAs}
use Rattle.movie.proofs.Boxed.{from_cut}

-- what is found along a way are bytes
pub bytes_follow : (cs : List ℕ) (b : List ℕ) → Bytes b → Bytes (follow cs b)
unfolding follow
bytes_follow [] b v = v
bytes_follow (c ∷ cs) b v = bytes_follow cs (find c (boxes b)) (bytes_lies (lies_found c 0 b v) v)

-- ---- where the entries of a track lie

-- the payload at the end of a way
lies_along : (cs : List ℕ) (b : List ℕ) → Bytes b → Lies (follow cs b) b (start_along cs b)
unfolding follow start_along
lies_along [] b v = lies_drop 0 b (omega arith)
lies_along (c ∷ cs) b v = let m = lies_found c 0 b v in lies_in m (lies_along cs (find c (boxes b)) (bytes_lies m v))

pub lies_track : (xs : List ℕ) (t : ℕ) → Bytes xs → Lies (track xs t) xs (start_in MOOV 0 (boxes xs) + start_in TRAK t (movie xs))
unfolding track
lies_track xs t v = let m = lies_found MOOV 0 xs v in lies_in m (lies_found TRAK t (find MOOV (boxes xs)) (bytes_lies m v))

-- that of the `stsd` of track t, from 0, in the file
pub stsd_lies : (xs : List ℕ) (t : ℕ) → Bytes xs → Lies (stsd_at xs t).body xs (stsd_at xs t).start
stsd_lies xs t v = let l = lies_track xs t v in lies_in l (lies_along to_stsd (track xs t) (bytes_lies l v))

pub lies_list : (xs : List ℕ) (t : ℕ) → Bytes xs → 0 < length (list_in (track xs t)) → Lies (list_in (track xs t)) xs (list_start xs t)
unfolding list_in list_start
lies_list xs t v h =
    let b = follow to_stsd (track xs t) in
    let n = length-drop FRONT b in
    lies_in (stsd_lies xs t v) (lies_drop FRONT b (omega arith))

pub bytes_list : (xs : List ℕ) (t : ℕ) → Bytes xs → Bytes (list_in (track xs t))
unfolding list_in
bytes_list xs t v = bytes_drop FRONT (follow to_stsd (track xs t)) (bytes_follow to_stsd (track xs t) (bytes_lies (lies_track xs t v) v))

-- ---- entry i

-- what stands from a number on, and from the next
next_is : {A : Type 0} (l : List A) (i : ℕ) {a : A} {m : List A} → drop i l ≡ a ∷ m → drop i l ≡ a ∷ drop (i + 1) l
next_is l i {a} {m} e = e ∙ ap (λ (k : List _). a ∷ k) (sym (ap (drop 1) e) ∙ drop-drop 1 i l)

module _ (xs : List ℕ) (v : Bytes xs) {i t n : ℕ} (s : InTrack (find MOOV (boxes xs)) i t n) where
  module _ {b : BoxAt} (c : Cut (list_in (track xs t)) ANY n b) where
    pub cut_is : drop i (entries xs) ≡ record { track = t + 1; place = list_start xs t + b.at; bytes = header (box_at (list_in (track xs t)) b) ++ payload (list_in (track xs t)) b } ∷ drop (i + 1) (entries xs)
    unfolding entries stsds entries_of list_in list_start track
    cut_is =
        let p = start_in MOOV 0 (boxes xs) in
        next_is (entries xs) i (s.is p ∙ ap (λ (k : List Entry). k ++ s.rest p) (from_cut (t + 1) (list_start xs t) (bytes_list xs t v) c))

    cut_lies : Lies (header (box_at (list_in (track xs t)) b) ++ payload (list_in (track xs t)) b) xs (list_start xs t + b.at)
    cut_lies = lies_in (lies_list xs t v (omega (arith, c.inside, c.least, c.eight))) (lies_box (bytes_list xs t v) c)

  pub entry_is : {e : EntryAt} → Placed xs t n e → EntryIs xs i e
  unfolding track
  entry_is {e} p =
      let l = cut_lies p.cut in
      let m = length_box (bytes_list xs t v) p.cut in
      let f : take e.span (drop e.place xs) ≡ header (box_at (list_in (track xs t)) p.box) ++ payload (list_in (track xs t)) p.box = rw (p.place, p.span) (rw m at l.is) in
      record {
        is = rw (f, p.track, p.place) (cut_is p.cut);
        inside = omega (arith, l.inside, p.place, p.span);
        first = omega (arith, p.track);
        last = omega (arith, p.track, s.some);
      }

  pub named_in : (r : Option EntryAt) → PlacedAs xs t n r → NamedAs xs i r
  unfolding track PlacedAs NamedAs
  named_in (Some e) p = entry_is p
  named_in None p = absurd (omega (arith, s.few))
