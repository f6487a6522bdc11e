-- What code finds of the place of an entry is what is meant. Assumes nothing.
use Rattle.std.specs.Prelude.{Option, Some, None}
use Prim.Native.Nat.{ℕ}
use mathlib.Core.Path.{◌≡◌, refl, sym, ap, subst, ◌∙◌}
use mathlib.Core.List.{List}
use Rattle.codes.specs.Codes.{TRAK}
use Rattle.boxes.specs.declared.walk.BoxAt.{BoxAt}
use Rattle.boxes.specs.Boxes.{boxes}
use Rattle.boxes.specs.Walk.{payload}
use Rattle.boxes.specs.Seek.{ANY, Cut}
use Rattle.movie.specs.declared.entry.Spot.{Spot}
use Rattle.movie.specs.Stsds.{stsds_from}
use Rattle.movie.specs.Named.{list_in, InTrack, SpotAs, spot_in, In}
use Rattle.edit_replace.specs.declared.place.Place.{Place}
use Rattle.edit_replace.specs.Places.{InTrackAs, PlaceOf, InMoovAs, Found, FoundAs}

module _ (ys : List ℕ) where
  pub track_at : (k : BoxAt) (n : ℕ) (e : BoxAt) → Cut (list_in (payload ys k)) ANY n e → InTrackAs ys k n (Some (record { trak = k; entry = e; nth = n }))
  unfolding InTrackAs
  track_at k n e c = record { trak = refl; nth = refl; entry = c }

  pub moov_as : (k : BoxAt) (t n : ℕ) → Cut ys TRAK t k → (r : Option Place) → InTrackAs ys k n r → InMoovAs ys t n r
  unfolding InTrackAs InMoovAs
  moov_as k t n c (Some p) i =
      record {
        nth = i.nth;
        trak = subst (λ (j : BoxAt). Cut ys TRAK t j) (sym i.trak) c;
        entry = subst (λ (j : BoxAt). Cut (list_in (payload ys j)) ANY n p.entry) (sym i.trak) i.entry;
      }
  moov_as k t n c None i = i

  pub found_as : (i t n : ℕ) → InTrack ys i t n → ((q : ℕ) → In t n ≡ spot_in (stsds_from 0 (boxes ys) q) i)
      → (r : Option Place) → InMoovAs ys t n r → FoundAs ys i r
  unfolding InMoovAs FoundAs
  found_as i t n s f (Some p) m =
      record {
        t = t;
        place = subst (λ (j : ℕ). PlaceOf ys t j p) (sym m.nth) m;
        within = subst (λ (j : ℕ). InTrack ys i t j) (sym m.nth) s;
        spot = λ q. ap (λ (j : ℕ). In t j) m.nth ∙ f q;
      }
  found_as i t n s f None m = absurd m

  pub found_at : (i : ℕ) (r : Option Place) → FoundAs ys i r → (p : Place) → r ≡ Some p → Found ys i p
  unfolding FoundAs
  found_at i r s p e = subst (FoundAs ys i) e s

  pub spot_within : (i : ℕ) (r : Option Spot) (t n : ℕ) → SpotAs ys i r → r ≡ In t n → InTrack ys i t n
  spot_within i r t n s e = subst (SpotAs ys i) e s

  pub found_past : (i : ℕ) (r : Option Spot) → SpotAs ys i r → r ≡ None → FoundAs ys i None
  unfolding FoundAs
  found_past i r s e = subst (SpotAs ys i) e s
