-- Laws of a file whose boxes were put in an order. Assumes nothing.
use Prim.Native.Nat.{ℕ, suc, ◌<◌}
use native.Mathlib.Omega.{arith}
use mathlib.Core.Path.{◌≡◌, sym, ap, ◌∙◌}
use mathlib.Core.Bool.{true}
use mathlib.Core.List.{List, [], map, append-nil}
use lib.ListN.{length}
use Rattle.wire.specs.Numbers.{Bytes}
use Rattle.boxes.specs.Box.{Box, write}
use Rattle.boxes.specs.Boxes.{boxes, after}
use Rattle.boxes.specs.Rewrite.{Bodies, Leaves, over, edit_box, edit_in}
use Rattle.boxes.specs.Kin.{All2}
use Rattle.boxes.proofs.Whole.{Good}
use Rattle.boxes.proofs.Written.{boxes_all, after_all}
use Rattle.boxes.proofs.Reading.{All, Shut, parts, lengths}
use Rattle.boxes.proofs.Rewriting.{open_over, boxes_over, length_over, bytes_write}
use Rattle.boxes.proofs.Editing.{box_length}
use Rattle.mdat.specs.Relocate.{Alike}
use Rattle.mdat.proofs.Staying.{alike_over}
use Rattle.rule.specs.Rule.{Rule, all_in}
use Rattle.rule.proofs.Opened.{opened, closed}
use Rattle.edit_offsets.proofs.Closing.{ShutMoov}
use Rattle.promise_kept.proofs.Arranges.{Arranges}

-- ---- a file that boxes tile, in the order A

module _ {A : List Box → List Box} (a : Arranges A) (ys : List ℕ) (w : Bytes ys) (e : after ys ≡ []) (n : length ys < 4294967296) (o : All ShutMoov (boxes ys)) where
  abbrev pub arrange : List ℕ
  arrange = write (A (boxes ys))

  good : All Good (A (boxes ys))
  good = a.each (parts ys w).good

  shut : Shut [] (A (boxes ys))
  shut = a.shut o (rw e at (parts ys w).shut)

  -- as long as it was
  pub arranged_length : length (write (A (boxes ys))) ≡ length ys
  arranged_length = let z = ap length e in omega (arith, a.span (boxes ys), lengths ys)

  small : length (write (A (boxes ys))) < 4294967296
  small = omega (arith, arranged_length)

  -- its boxes
  pub arranged_boxes : boxes (write (A (boxes ys))) ≡ A (boxes ys)
  arranged_boxes = boxes_all good shut small

  -- boxes tile it
  pub arranged_after : after (write (A (boxes ys))) ≡ []
  arranged_after = after_all good shut small

  -- it holds bytes
  pub arranged_bytes : Bytes (write (A (boxes ys)))
  arranged_bytes = bytes_write (a.each (parts ys w).filled)

  -- a rule that is kept of the file itself is kept of all
  pub arranged_rule : (r : Rule) (d k : ℕ) → (r.node k ys ≡ true → r.node k (write (A (boxes ys))) ≡ true) → all_in r (suc d) k ys ≡ true → all_in r (suc d) k (write (A (boxes ys))) ≡ true
  arranged_rule r d k h q =
      let o = opened r d k ys q in
      closed r d k arrange (record { node = h o.node; leaves = rw arranged_boxes (a.each o.leaves); inside = rw arranged_boxes (a.each o.inside); end = rw arranged_after (rw e at o.end) })

  -- ---- opaque boxes by g, before or after

  module _ (g : Leaves) (keeps : (k c : ℕ) (b : List ℕ) → length (g k c b) ≡ length b) (d k : ℕ) where
    abbrev bodies : Bodies
    bodies = edit_box g (edit_in g d) k

    edit_boxes : boxes (edit_in g (suc d) k ys) ≡ map (over bodies) (boxes ys)
    unfolding edit_in
    edit_boxes = boxes_over bodies ys w (rw (length_over bodies (box_length g keeps d k) ys) n)

    -- to rewrite bodies and then to arrange is to arrange and then to rewrite
    pub arranged_edit : edit_in g (suc d) k (write (A (boxes ys))) ≡ write (A (boxes (edit_in g (suc d) k ys)))
    unfolding edit_in
    arranged_edit =
        open_over bodies (write (A (boxes ys)))
        ∙ rw (arranged_boxes, arranged_after, append-nil) (ap write (sym (a.maps bodies (boxes ys)) ∙ ap A (sym edit_boxes)))

    -- the layout is the same
    pub arranged_alike : All2 Alike (A (boxes ys)) (A (boxes (edit_in g (suc d) k ys)))
    arranged_alike = rw (edit_boxes, a.maps bodies (boxes ys)) (alike_over bodies (box_length g keeps d k) (A (boxes ys)))
