-- The entries of a file as they are written: those of a track are its list, where boxes tile it. Assumes nothing.
use Prim.Native.Nat.{ℕ, ◌+◌, ◌≤◌, ◌<◌}
use native.Mathlib.Omega.{arith}
use mathlib.Core.Path.{◌≡◌, refl, sym, ap, ◌∙◌}
use mathlib.Core.List.{List, [], ◌∷◌, ◌++◌, append_assoc, append-nil}
use lib.ListN.{length, take}
use lib.Seq.{take-add, take_all}
use Rattle.wire.specs.Numbers.{Bytes}
use Rattle.wire.specs.Writing.{Put}
use Rattle.wire.proofs.Writing.{pen_none, pen_then, pen_is}
use Rattle.codes.specs.Codes.{MOOV, TRAK}
use Rattle.boxes.specs.Box.{Box, size, write}
use Rattle.boxes.specs.Boxes.{boxes, after}
use Rattle.boxes.specs.Seek.{nth, start_in}
use Rattle.boxes.proofs.Reading.{write_boxes}
use Rattle.movie.specs.Movie.{movie, tracks, track}
use Rattle.movie.specs.Stsds.{Stsd, stsd_of, stsds_from, stsds}
use Rattle.movie.specs.Entries.{Entry, entries_from, entries_of, entries_in, entries}
use Rattle.movie.specs.Named.{list_in}
use Rattle.movie.proofs.Naming.{bytes_list}
use Rattle.layout.proofs.Few.{nil_of}
use Rattle.layout.proofs.Numbering.{length_stsds, stsd_cons}
use Rattle.sheet.specs.Sheet.{bodies}

bodies_append : (es fs : List Entry) → bodies (es ++ fs) ≡ bodies es ++ bodies fs
unfolding bodies
bodies_append [] fs = refl
bodies_append (e ∷ es) fs = rw (bodies_append es fs, append_assoc)

-- ---- one list

bodies_from : (t : ℕ) (l : List Box) (p : ℕ) → bodies (entries_from t l p) ≡ write l
unfolding bodies entries_from write
bodies_from t [] p = refl
bodies_from t (x ∷ l) p = rw (bodies_from t l (p + size x), append_assoc)

bodies_list : (ys : List ℕ) → Bytes ys → length (after ys) ≡ 0 → (t p : ℕ) → bodies (entries_from t (boxes ys) p) ≡ ys
bodies_list ys v z t p =
    let e : write (boxes ys) ++ after ys ≡ ys = write_boxes ys v in
    bodies_from t (boxes ys) p ∙ sym (append-nil (write (boxes ys))) ∙ rw (nil_of (after ys) z) at e

-- ---- one after the other

entries_append : (l m : List Stsd) → entries_in (l ++ m) ≡ entries_in l ++ entries_in m
unfolding entries_in
entries_append [] m = refl
entries_append (s ∷ l) m = rw (entries_append l m, append_assoc)

-- the list of track t alone
last_one : (xs : List ℕ) (t : ℕ) → Bytes xs → length (after (list_in (track xs t))) ≡ 0 → (p : ℕ) → bodies (entries_in (stsd_of (t + 1) (nth TRAK t (movie xs)) p ∷ [])) ≡ list_in (track xs t)
unfolding entries_in entries_of list_in track
last_one xs t v z p = ap bodies (append-nil _) ∙ bodies_list (list_in (track xs t)) (bytes_list xs t v) z (t + 1) _

module _ (xs : List ℕ) where
  -- those of the first t tracks
  unfoldable pub up_to : ℕ → List ℕ
  up_to t = bodies (entries_in (take t (stsds xs)))

  pub bodies_start : (out : List ℕ) (at : ℕ) → Put (up_to 0) out at at out
  unfolding up_to bodies entries_in
  bodies_start out at = pen_none out at

  up_more : (t : ℕ) → Bytes xs → t < tracks xs → length (after (list_in (track xs t))) ≡ 0 → up_to (t + 1) ≡ up_to t ++ list_in (track xs t)
  unfolding up_to stsds track
  up_more t v h z =
      let p = start_in MOOV 0 (boxes xs) in
      let l = stsds_from 0 (movie xs) p in
      let s = stsd_of (t + 1) (nth TRAK t (movie xs)) (p + start_in TRAK t (movie xs)) in
      let o : take (t + 1) l ≡ take t l ++ (s ∷ []) = take-add t 1 l ∙ ap (λ (k : List Stsd). take t l ++ take 1 k) (stsd_cons (movie xs) p t h) in
      let e : entries_in (take (t + 1) l) ≡ entries_in (take t l) ++ entries_in (s ∷ []) = ap entries_in o ∙ entries_append (take t l) (s ∷ []) in
      ap bodies e ∙ bodies_append (entries_in (take t l)) (entries_in (s ∷ [])) ∙ ap (λ (k : List ℕ). bodies (entries_in (take t l)) ++ k) (last_one xs t v z (p + start_in TRAK t (movie xs)))

  pub bodies_more : (t : ℕ) → Bytes xs → t < tracks xs → length (after (list_in (track xs t))) ≡ 0 → {ys out mid after : List ℕ} {at m r : ℕ} → ys ≡ list_in (track xs t)
      → Put (up_to t) out at m mid → Put ys mid m r after → Put (up_to (t + 1)) out at r after
  bodies_more t v h z e p q = pen_is (ap (λ (l : List ℕ). up_to t ++ l) e ∙ sym (up_more t v h z)) (pen_then p q)

  pub bodies_all : (t : ℕ) → tracks xs ≤ t → {out after : List ℕ} {at r : ℕ} → Put (up_to t) out at r after → Put (bodies (entries xs)) out at r after
  unfolding up_to entries stsds
  bodies_all t h p =
      let l = stsds_from 0 (movie xs) (start_in MOOV 0 (boxes xs)) in
      pen_is (ap (λ (k : List Stsd). bodies (entries_in k)) (take_all t l (omega (arith, length_stsds (movie xs) 0 (start_in MOOV 0 (boxes xs)))))) p
