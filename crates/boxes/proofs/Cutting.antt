-- The box that a search found. Assumes nothing.
use Rattle.std.specs.Prelude.{Option, Some, None}
use Prim.Native.Nat.{◌<◌, ℕ, ◌≤◌}
use native.Mathlib.Omega.{arith}
use mathlib.Core.Path.{◌≡◌, sym, ap, ◌∙◌, subst}
use mathlib.Core.List.{List, ◌∷◌, ◌++◌, append_assoc}
use lib.ListN.{length, length-append}
use lib.Seq.{length-take-le}
use Rattle.wire.specs.Numbers.{Bytes}
use Rattle.boxes.specs.declared.walk.BoxAt.{BoxAt}
use Rattle.boxes.specs.Box.{Box, size, header, write}
use Rattle.boxes.specs.Boxes.{boxes, after}
use Rattle.boxes.specs.Walk.{payload, box_at}
use Rattle.boxes.specs.Seek.{count, nth, Cut, SeenAs}
use Rattle.boxes.proofs.Whole.{length_header}
use Rattle.boxes.proofs.Reading.{write_boxes, write_cons, write_append}
use Rattle.boxes.proofs.Numbered.{count_append, nth_is}
use Rattle.boxes.proofs.Lying.{Lies, lies_front}
use Rattle.boxes.proofs.Seeking.{payload_length}

-- what a search answered
module _ (xs : List ℕ) (c n : ℕ) (r : Option BoxAt) (s : SeenAs xs c n r) where
  pub cut_as : (b : BoxAt) → r ≡ Some b → Cut xs c n b
  cut_as b e = subst (SeenAs xs c n) e s

  pub none_as : r ≡ None → count c (boxes xs) ≤ n
  none_as e = subst (SeenAs xs c n) e s

pub cut_payload : (xs : List ℕ) (c n : ℕ) (b : BoxAt) → Cut xs c n b → payload xs b ≡ nth c n (boxes xs)
cut_payload xs c n b s = sym (rw s.list (nth_is c n s.p (box_at xs b) s.q s.nth s.hit))

-- there are more than those before it
pub cut_some : {xs : List ℕ} {c n : ℕ} {b : BoxAt} → Cut xs c n b → n < count c (boxes xs)
unfolding count
cut_some s = rw (s.list, count_append) (omega (arith, s.nth, s.hit))

module _ {xs : List ℕ} {c n : ℕ} {b : BoxAt} (v : Bytes xs) (s : Cut xs c n b) where
  length_before : length (write s.p) ≡ b.at
  length_before = sym (ap length s.before) ∙ length-take-le b.at xs (omega (arith, s.inside))

  -- as long as it says
  pub cut_size : b.span ≡ size (box_at xs b)
  cut_size = omega (arith, payload_length xs b s.least s.inside, s.least, s.head)

  pub length_box : length (header (box_at xs b) ++ payload xs b) ≡ b.span
  length_box = rw (length-append, length_header, payload_length xs b s.least s.inside) (omega (arith, s.least, s.head))

  -- the whole box lies where it starts
  pub lies_box : Lies (header (box_at xs b) ++ payload xs b) xs b.at
  lies_box =
      let x : Box = box_at xs b in
      let r : List ℕ = write s.q ++ after xs in
      let e : write s.p ++ (header x ++ x.body ++ r) ≡ xs =
      ap (λ (k : List ℕ). write s.p ++ k) (append_assoc (header x) x.body r ∙ sym (write_cons x s.q (after xs)))
      ∙ sym (append_assoc (write s.p) (write (x ∷ s.q)) (after xs)) ∙ rw (← write_append s.p (x ∷ s.q), ← s.list) (write_boxes xs v) in
      rw e at (lies_front (write s.p) (header x ++ x.body) r b.at length_before)
