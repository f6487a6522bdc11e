-- The boxes of boxes that were written. Assumes nothing.
use Prim.Native.Nat.{ℕ, ◌<◌}
use native.Mathlib.Omega.{arith}
use mathlib.Core.Path.{◌≡◌, sym, ap, ◌∙◌}
use mathlib.Core.Bool.{false}
use mathlib.Core.List.{List, [], ◌∷◌, ◌++◌, append-nil}
use lib.ListN.{length}
use Rattle.boxes.specs.declared.walk.Form.TheVariants.{Open}
use Rattle.boxes.specs.Box.{Box, size, header, write}
use Rattle.boxes.specs.Boxes.{whole, boxes, after}
use Rattle.boxes.proofs.Whole.{short_not, Good, Ends, size_box, front_box_lem, rest_box, whole_box}
use Rattle.boxes.proofs.Reading.{All, Shut, boxes_stop, boxes_next, after_stop, after_next, write_cons, length_cons}
use Rattle.boxes.proofs.Reading.All.{none, some}
use Rattle.boxes.proofs.Reading.Shut.{end, next}

module _ (x : Box) (r : List ℕ) (g : Good x) (s : size x < 4294967296) (o : Ends x r) where
  pub boxes_box : boxes (header x ++ (x.body ++ r)) ≡ x ∷ boxes r
  boxes_box = boxes_next _ (whole_box x r g s o) ∙ rw (front_box_lem x r g s o, size_box x r g s o, rest_box x r g s o)

  pub after_box : after (header x ++ (x.body ++ r)) ≡ after r
  after_box = after_next _ (whole_box x r g s o) ∙ rw (size_box x r g s o, rest_box x r g s o)

-- nothing is written past an open box
past_none : (x : Box) {l : List Box} {r : List ℕ} → (x.form ≡ Open → (l ≡ []) × (r ≡ [])) → Ends x (write l ++ r)
unfolding write
past_none x h e = rw ((h e).0, (h e).1)

module _ (r : List ℕ) (e : whole r ≡ false) where
  pub boxes_write : {l : List Box} → All Good l → Shut r l → length (write l) < 4294967296 → boxes (write l ++ r) ≡ l
  unfolding write
  boxes_write none end s = boxes_stop r e
  boxes_write (some {x} {l} g a) (next o z) s =
      let n = length_cons x l in
      rw (write_cons x l r) (boxes_box x (write l ++ r) g (omega arith) (past_none x o) ∙ ap (λ (m : List Box). x ∷ m) (boxes_write a z (omega arith)))

  pub after_write : {l : List Box} → All Good l → Shut r l → length (write l) < 4294967296 → after (write l ++ r) ≡ r
  unfolding write
  after_write none end s = after_stop r e
  after_write (some {x} {l} g a) (next o z) s =
      let n = length_cons x l in
      rw (write_cons x l r) (after_box x (write l ++ r) g (omega arith) (past_none x o) ∙ after_write a z (omega arith))

-- nothing stands past boxes alone
module _ {l : List Box} (a : All Good l) (z : Shut [] l) (s : length (write l) < 4294967296) where
  no_whole : whole [] ≡ false
  no_whole = short_not [] (omega arith)

  pub boxes_all : boxes (write l) ≡ l
  boxes_all = ap boxes (sym (append-nil (write l))) ∙ boxes_write [] no_whole a z s

  pub after_all : after (write l) ≡ []
  after_all = ap after (sym (append-nil (write l))) ∙ after_write [] no_whole a z s
