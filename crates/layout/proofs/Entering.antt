-- The entry of a number, from the lists of the tracks. Assumes nothing.
use Rattle.std.specs.Prelude.{None}
use Prim.Native.Nat.{ℕ, ◌+◌, ◌-◌, ◌≤◌, ◌<◌}
use native.Mathlib.Omega.{arith}
use mathlib.Core.Path.{◌≡◌, refl, sym, ap, subst, ◌∙◌}
use mathlib.Core.List.{List, [], ◌++◌}
use lib.ListN.{length, drop, length-drop, drop_of_length-le}
use lib.Seq.{drop-append-le, drop-append-add}
use Rattle.codes.specs.Codes.{MOOV, TRAK}
use Rattle.boxes.specs.Boxes.{boxes}
use Rattle.boxes.specs.Seek.{ANY, count, find, start_in}
use Rattle.boxes.proofs.Placing.{total_is}
use Rattle.movie.specs.Movie.{movie, tracks, track}
use Rattle.movie.specs.Stsds.{Stsd, stsds_from, stsds}
use Rattle.movie.specs.Entries.{entries_in, entries}
use Rattle.movie.specs.Named.{list_in, InTrack, NamedAs}
use Rattle.layout.specs.declared.gather.Slot.{Slot}
use Rattle.layout.specs.declared.entries.Lists.{Lists}
use Rattle.layout.specs.Entries.{list_slot, ListAt, ListsAt}
use Rattle.layout.proofs.Few.{by_four}
use Rattle.layout.proofs.Numbering.{length_stsds, count_total, own, from_here, long}

-- entry i is entry `left` from track t on
pub record Left (xs : List ℕ) (i t left : ℕ) : Type 0 where
  pub most : t ≤ tracks xs
  pub is : (p : ℕ) → drop i (entries_in (stsds_from 0 (movie xs) p)) ≡ drop left (entries_in (drop t (stsds_from 0 (movie xs) p)))

pub left_none : (xs : List ℕ) (i : ℕ) → Left xs i 0 i
left_none xs i = record { most = omega arith; is = λ p. refl }

module _ {xs : List ℕ} {i t left : ℕ} (k : Left xs i t left) where
  module _ (h : t < tracks xs) {n : ℕ} (c : n ≡ count ANY (boxes (list_in (track xs t)))) where
    pub left_more : n ≤ left → Left xs i (t + 1) (left - n)
    left_more l =
        record {
          most = omega arith;
          is = λ p.
              let rest = entries_in (drop (t + 1) (stsds_from 0 (movie xs) p)) in
              let z : left ≡ length (own xs h p) + (left - n) = omega (arith, long xs h p) in
              k.is p ∙ ap (drop left) (from_here xs h p) ∙ ap (λ (m : ℕ). drop m (own xs h p ++ rest)) z ∙ drop-append-add (own xs h p) rest (left - n);
        }

    pub left_in : left < n → InTrack (find MOOV (boxes xs)) i t left
    unfolding track
    left_in l =
        record {
          some = h;
          small = omega (arith, count_total TRAK (boxes (find MOOV (boxes xs))), total_is (find MOOV (boxes xs)));
          few = omega (arith, c);
          rest = λ p. entries_in (drop (t + 1) (stsds_from 0 (movie xs) p));
          is = λ p. k.is p ∙ ap (drop left) (from_here xs h p) ∙ drop-append-le left _ _ (omega (arith, long xs h p));
        }

  pub left_end : tracks xs ≤ t → NamedAs xs i None
  unfolding NamedAs entries stsds entries_in
  left_end h =
      let p = start_in MOOV 0 (boxes xs) in
      let e : drop t (stsds_from 0 (movie xs) p) ≡ [] = drop_of_length-le (stsds_from 0 (movie xs) p) {i = t} (omega (arith, length_stsds (movie xs) 0 p)) in
      let d : drop i (entries_in (stsds_from 0 (movie xs) p)) ≡ drop left (entries_in []) = k.is p ∙ ap (λ (l : List Stsd). drop left (entries_in l)) e in
      omega (arith, ap length d, length-drop i (entries_in (stsds_from 0 (movie xs) p)), length-drop left (entries_in []))

-- ---- the list of a track by its number

pub list_of : {xs : List ℕ} {l : Lists} → ListsAt xs l → (t : ℕ) → t < 4 → ListAt xs t (list_slot l t)
unfolding list_slot
list_of {xs} k t h = by_four (λ j s. ListAt xs j s) k.one k.two k.three k.four t h

pub list_got : {xs : List ℕ} {l : Lists} → ListsAt xs l → (t : ℕ) → t < 4 → {s : Slot} → s ≡ list_slot l t → ListAt xs t s
list_got {xs} k t h q = subst (ListAt xs t) (sym q) (list_of k t h)
