-- What is sure of a file whose boxes stand as rules 2 and 3 want them. Assumes nothing.
use Prim.Native.Nat.{ℕ, ◌≤◌}
use native.Mathlib.Omega.{arith}
use mathlib.Core.Path.{◌≡◌}
use mathlib.Core.Bool.{true}
use mathlib.Core.List.{List, [], ◌∷◌}
use Rattle.wire.specs.Clauses.{every}
use Rattle.wire.proofs.Clauses.{clause}
use Rattle.codes.specs.Codes.{FTYP, MOOV, MVHD}
use Rattle.boxes.specs.Containers.{FILE}
use Rattle.movie.specs.Movie.{tracks}
use Rattle.layout.specs.declared.tracks.Movie.{Movie}
use Rattle.layout.specs.Slots.{slot_in}
use Rattle.layout.specs.Tracks.{LaidOut}
use Rattle.rule_shape.proofs.Needs.{shape_tracks}
use Rattle.rule_headers.specs.Forms.{form}
use Rattle.rule_all.specs.All.{SureBefore}
use Rattle.rule_all.specs.Tracks.{Tracked}
use Rattle.rule_all.proofs.Whole.{file_nine}
use Rattle.rule_all.proofs.Entries.{file_ten}

module _ {xs : List ℕ} {m : Movie} (l : LaidOut xs m) (e : m.shaped ≡ true) where
  pub few_tracks : tracks xs ≤ 4
  few_tracks = (shape_tracks _ (l.shaped e).moov.three).1

  pub sure_of : every (form FILE FTYP (slot_in xs m.ftyp) ∷ form MOOV MVHD (slot_in xs m.mvhd) ∷ []) ≡ true → {r : ℕ} → Tracked xs r → SureBefore xs r
  sure_of h t =
      let f = l.shaped e in
      record {
        low = t.low;
        most = t.most;
        nine = λ z. file_nine _ _ f (rw l.ftyp.is at (clause 0 _ h)) (rw l.mvhd.is at (clause 1 _ h)) (t.each z) (t.differ z) (t.few z);
        ten = λ z. file_ten _ _ f (t.each (omega arith)) (t.listed z);
      }
