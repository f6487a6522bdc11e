-- Looking an entry up, as code and its callers ask. Assumes nothing.
use Rattle.std.specs.Prelude.{Option, Some, None}
use Prim.Native.Nat.{ℕ, ◌+◌, ◌≤◌}
use native.Mathlib.Omega.{arith}
use mathlib.Core.Path.{◌≡◌, refl, ap, subst, ◌∙◌}
use mathlib.Core.List.{List}
use lib.ListN.{length, drop, length-drop}
use Rattle.codes.specs.Codes.{MOOV, TRAK, STSD}
use Rattle.boxes.specs.declared.walk.BoxAt.{BoxAt}
use Rattle.boxes.specs.Boxes.{boxes, FRONT}
use Rattle.boxes.specs.Seek.{ANY, find, start_in, SeenAs}
use Rattle.boxes.proofs.Numbered.{found_short}
use Rattle.boxes.proofs.Cutting.{cut_as, none_as}
use Rattle.movie.specs.declared.entry.EntryAt.{EntryAt}
use Rattle.movie.specs.declared.entry.Spot.{Spot}
use Rattle.movie.specs.Ways.{to_stsd, start_along}
use Rattle.movie.specs.Movie.{track, sample_table}
use Rattle.movie.specs.Stsds.{stsds_from, stsds}
use Rattle.movie.specs.Entries.{entries_in, entries}
use Rattle.movie.specs.Named.{list_in, list_start, InTrack, SpotAs, PlacedAs, EntryIs, NamedAs, In}

-- ---- as code asks

pub list_is : (b stsd list : List ℕ) → stsd ≡ sample_table STSD b → length stsd ≤ length b → list ≡ drop FRONT stsd → (list ≡ list_in b) × (length list ≤ length b)
unfolding list_in sample_table
list_is b stsd list e h f = (f ∙ ap (drop FRONT) e, omega (arith, ap length f ∙ length-drop FRONT stsd))

pub spot_in_lem : (xs : List ℕ) {moov : List ℕ} → moov ≡ find MOOV (boxes xs) → (i : ℕ) (r : Option Spot) (t n : ℕ) → SpotAs moov i r → r ≡ In t n → InTrack (find MOOV (boxes xs)) i t n
spot_in_lem xs {moov} e i r t n s f = let g : InTrack moov i t n = subst (SpotAs moov i) f s in rw e at g

pub spot_small : (xs : List ℕ) {i t n : ℕ} → InTrack (find MOOV (boxes xs)) i t n → t ≤ length xs
spot_small xs s = omega (arith, s.small, found_short MOOV 0 xs refl)

pub spot_past : (xs : List ℕ) {moov : List ℕ} → moov ≡ find MOOV (boxes xs) → (i : ℕ) (r : Option Spot) → SpotAs moov i r → r ≡ None → NamedAs xs i None
unfolding stsds entries NamedAs
spot_past xs {moov} e i r s f =
    let g : (p : ℕ) → length (entries_in (stsds_from 0 (boxes moov) p)) ≤ i = subst (SpotAs moov i) f s in
    rw e at (g (start_in MOOV 0 (boxes xs)))

pub list_start_is : (xs : List ℕ) (t : ℕ) {moov b : List ℕ} → moov ≡ find MOOV (boxes xs) → b ≡ track xs t → {i j k : ℕ} → i ≡ start_in MOOV 0 (boxes xs) → j ≡ start_in TRAK t (boxes moov) → k ≡ start_along to_stsd b → i + j + k + FRONT ≡ list_start xs t
unfolding list_start
list_start_is xs t e f o p q = rw (o, p, q, f, e)

module _ (xs : List ℕ) (t n : ℕ) {b l : List ℕ} (e : b ≡ track xs t) (f : l ≡ list_in b) (r : Option BoxAt) (s : SeenAs l ANY n r) where
  pub placed_at : (x : BoxAt) → r ≡ Some x → {p : ℕ} → p ≡ list_start xs t → PlacedAs xs t n (Some (record { track = t + 1; nth = n; place = p + x.at; span = x.span }))
  unfolding PlacedAs
  placed_at x g q = record { track = refl; nth = refl; box = x; cut = rw (f, e) at (cut_as l ANY n r s x g); span = refl; place = rw q }

  pub placed_none : r ≡ None → PlacedAs xs t n None
  unfolding PlacedAs
  placed_none g = rw (f, e) at (none_as l ANY n r s g)

-- ---- as callers ask

module _ (xs : List ℕ) (i : ℕ) (r : Option EntryAt) (s : NamedAs xs i r) where
  pub named_at : (e : EntryAt) → r ≡ Some e → EntryIs xs i e
  unfolding NamedAs
  named_at e f = subst (NamedAs xs i) f s

  pub named_none : r ≡ None → length (entries xs) ≤ i
  unfolding NamedAs
  named_none f = subst (NamedAs xs i) f s
