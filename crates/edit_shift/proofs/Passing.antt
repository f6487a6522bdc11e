-- The times of a file by any function: nothing moves. Assumes nothing.
use Prim.Native.Nat.{ℕ, ◌<◌}
use native.Mathlib.Omega.{arith}
use mathlib.Core.Path.{◌≡◌, refl}
use mathlib.Core.Bool.{Bool, true, false}
use mathlib.Core.List.{List}
use lib.ListN.{length}
use Rattle.wire.specs.Tests.{pick}
use Rattle.wire.specs.Numbers.{Bytes}
use Rattle.boxes.specs.Boxes.{boxes}
use Rattle.boxes.specs.Containers.{FILE, DEPTH}
use Rattle.boxes.specs.Kin.{All2}
use Rattle.boxes.specs.Rewrite.{Bodies, over_boxes, edit_box, edit_in}
use Rattle.boxes.specs.Words.{reword}
use Rattle.boxes.proofs.Editing.{edit_length, edit_bytes, edit_deep, box_length}
use Rattle.boxes.proofs.Rewriting.{boxes_over, length_over}
use Rattle.boxes.proofs.Wording.{reword_length, reword_bytes}
use Rattle.mdat.specs.Relocate.{Alike}
use Rattle.mdat.proofs.Staying.{alike_over}
use Rattle.edit_shift.specs.Shift.{has_times, times_leaf, all_times_by}

-- ---- one opaque box

module _ (f : ℕ → ℕ) (k c : ℕ) (b : List ℕ) where
  -- what holds of its body, and with the times rewritten, holds
  leaf_by : (P : List ℕ → Type 0) → P b → P (reword f 4 8 b) → P (times_leaf f k c b)
  unfolding times_leaf
  leaf_by P p q = by (has_times k c)
    where
      by : (t : Bool) → P (pick t (reword f 4 8 b) b)
      by true = q
      by false = p

  times_long : length (times_leaf f k c b) ≡ length b
  times_long = leaf_by (λ ys. length ys ≡ length b) refl (reword_length f 4 8 b)

  times_filled : Bytes b → Bytes (times_leaf f k c b)
  times_filled w = leaf_by Bytes w (reword_bytes f 4 8 b w)

-- ---- a file

module _ (f : ℕ → ℕ) (xs : List ℕ) where
  pub all_length : length (all_times_by f xs) ≡ length xs
  unfolding all_times_by
  all_length = edit_length (times_leaf f) (times_long f) DEPTH FILE xs

  pub all_bytes : Bytes xs → Bytes (all_times_by f xs)
  unfolding all_times_by
  all_bytes v = edit_bytes (times_leaf f) (times_filled f) DEPTH FILE xs v

  -- the layout stays
  pub all_alike : Bytes xs → length xs < 4294967296 → All2 Alike (boxes xs) (boxes (all_times_by f xs))
  unfolding all_times_by
  all_alike v h =
      let g : Bodies = edit_box (times_leaf f) (edit_in (times_leaf f) 5) FILE in
      let k : (c : ℕ) (b : List ℕ) → length (g c b) ≡ length b = box_length (times_leaf f) (times_long f) 5 FILE in
      let e : over_boxes g xs ≡ edit_in (times_leaf f) DEPTH FILE xs = edit_deep (times_leaf f) DEPTH FILE xs (λ z. omega arith) in
      rw (← e, boxes_over g xs v (omega (arith, length_over g k xs))) (alike_over g k (boxes xs))
