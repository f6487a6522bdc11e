-- The file with its `moov` closed has the tracks of the file. Assumes nothing.
use Prim.Native.Nat.{ℕ, ◌<◌}
use mathlib.Core.Path.{◌≡◌, refl, ap, ◌∙◌}
use mathlib.Core.List.{List, [], ◌∷◌, map}
use lib.ListN.{length}
use Rattle.wire.specs.Numbers.{Bytes}
use Rattle.codes.specs.Codes.{MOOV, TRAK}
use Rattle.boxes.specs.Box.{Box}
use Rattle.boxes.specs.Boxes.{boxes}
use Rattle.boxes.specs.Seek.{nth, find}
use Rattle.movie.specs.Movie.{track}
use Rattle.edit_offsets.specs.Close.{shut_box, closed}
use Rattle.edit_offsets.proofs.ClosedFile.{boxes_closed}

-- a closed box has its payload
shut_find : (c : ℕ) (l : List Box) → find c (map shut_box l) ≡ find c l
unfolding nth
shut_find c [] = refl
shut_find c (x ∷ l) = rw (shut_find c l)

module _ (xs : List ℕ) (w : Bytes xs) (n : length xs < 4294967296) where
  pub closed_track : (t : ℕ) → track (closed xs) t ≡ track xs t
  unfolding track
  closed_track t = ap (λ (b : List ℕ). nth TRAK t (boxes b)) (ap (find MOOV) (boxes_closed xs w n) ∙ shut_find MOOV (boxes xs))
