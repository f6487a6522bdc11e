-- A replacement changes the record in the track of the entry, and in no other track. Assumes nothing.
use Prim.Native.Nat.{ℕ, ◌≤◌, ◌<◌}
use native.Mathlib.Omega.{arith}
use mathlib.Core.Path.{◌≡◌, refl, sym, ap, ◌∙◌}
use mathlib.Core.List.{List, ◌++◌, map}
use lib.ListN.{length}
use Rattle.wire.specs.Numbers.{Bytes}
use Rattle.codes.specs.Codes.{MOOV, TRAK, STSD}
use Rattle.wire.proofs.Tests.{lt_or}
use Rattle.boxes.specs.Boxes.{boxes}
use Rattle.boxes.specs.Containers.{FILE, DEPTH}
use Rattle.boxes.specs.Seek.{count, nth, find}
use Rattle.boxes.specs.Kin.{Kin}
use Rattle.boxes.specs.Way.{over_nth, over_turn, edit_way, tail_by}
use Rattle.boxes.proofs.Turning.{nth_missing}
use Rattle.boxes.proofs.Numbered.{found_short}
use Rattle.boxes.proofs.Lying.{bytes_lies, lies_found}
use Rattle.boxes.proofs.Down.{end_of, end_by}
use Rattle.boxes.proofs.OneOfPart.{nth_here, nth_other}
use Rattle.movie.specs.Ways.{to_stsd}
use Rattle.movie.specs.Movie.{track, sample_table}
use Rattle.edit_offsets.specs.Settle.{settled}
use Rattle.edit_replace.specs.Replace.{turn, record_at}
use Rattle.edit_replace.proofs.Changing.{stsd_end, by_stsd, stsd_way, to_entry, down_stsd}
use Rattle.promise_differs.specs.Differs.{TRACK, OnlyOffsets, with_record}
use Rattle.promise_differs.proofs.Replacing.{follows}
use Rattle.promise_differs.proofs.Tracking.{track_kin, same_stsd}
use Rattle.movie.specs.Named.{In}

-- of a file xs, whose chunk offsets were those of the file `from`
module _ (from : List ℕ) (t n keep : ℕ) (new xs : List ℕ) (w : Bytes new) (v : Bytes xs) (s : length (record_at (In t n) keep new xs) < 4294967296) where
  abbrev zs : List ℕ
  zs = record_at (In t n) keep new xs

  abbrev settles : Kin OnlyOffsets DEPTH FILE zs (settled from zs)
  settles = follows from t n keep new xs w v s

  -- ---- the track of the entry

  -- its `stsd` has the record
  pub record_there : 1 ≤ length (sample_table STSD (track xs t)) → sample_table STSD (track (settled from (record_at (In t n) keep new xs)) t) ≡ with_record n keep new (sample_table STSD (track xs t))
  unfolding edit_way
  record_there l =
      let q = by_stsd t n keep new xs in
      sym (same_stsd zs _ settles t)
      ∙ sym (stsd_end t zs) ∙ ap (end_of (stsd_way t)) q
      ∙ end_by (with_record n keep new) (down_stsd t) xs v (rw q at s) (rw (stsd_end t xs) l) ∙ ap (with_record n keep new) (stsd_end t xs)

  -- ---- any other track

  abbrev in_trak : List ℕ → List ℕ
  in_trak ys = edit_way (map (λ c. turn c 0) to_stsd ++ to_entry n) (tail_by keep new) ys

  abbrev in_moov : List ℕ → List ℕ
  in_moov ys = over_nth TRAK t in_trak ys

  by_moov : zs ≡ over_nth MOOV 0 in_moov xs
  unfolding edit_way over_turn
  by_moov = refl

  track_same : (u : ℕ) → (u ≡ t → ⊥) → track xs u ≡ track zs u
  unfolding track
  track_same u z =
      let M = find MOOV (boxes xs) in
      lt_or 0 (count MOOV (boxes xs))
      (λ p.
      let q : find MOOV (boxes zs) ≡ in_moov M = rw by_moov (nth_here MOOV 0 in_moov xs v (rw by_moov at s) p) in
      let l = found_short MOOV 0 zs (sym q) in
      sym (ap (λ (b : List ℕ). nth TRAK u (boxes b)) q ∙ nth_other TRAK t in_trak M (bytes_lies (lies_found MOOV 0 xs v) v) (omega arith) u z))
      (λ p. ap (λ (ys : List ℕ). nth TRAK u (boxes (find MOOV (boxes ys)))) (nth_missing MOOV 0 in_moov xs v p ∙ sym by_moov))

  -- has no other record
  pub record_elsewhere : (u : ℕ) → (u ≡ t → ⊥) → Kin OnlyOffsets TRACK TRAK (track xs u) (track (settled from (record_at (In t n) keep new xs)) u)
  record_elsewhere u z = rw (track_same u z) (track_kin OnlyOffsets zs _ settles u)
