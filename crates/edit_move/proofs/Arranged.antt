-- The file's pieces as code puts them, and then its `moov` closed, are the boxes of the closed file in their new order. Assumes nothing.
use Prim.Native.Nat.{ℕ, ◌+◌}
use native.Mathlib.Omega.{arith}
use mathlib.Core.Path.{◌≡◌, refl, sym, ap, ◌∙◌}
use mathlib.Core.List.{List, [], ◌∷◌, ◌++◌, append-nil, map}
use lib.ListN.{length}
use Rattle.codes.specs.Codes.{MOOV}
use Rattle.wire.specs.Numbers.{Bytes}
use Rattle.boxes.specs.declared.walk.BoxAt.{BoxAt}
use Rattle.boxes.specs.Box.{Box, size, write}
use Rattle.boxes.specs.Boxes.{boxes, total, after}
use Rattle.boxes.specs.Seek.{count}
use Rattle.boxes.specs.Walk.{box_at}
use Rattle.boxes.proofs.Reading.{lengths, write_append, write_boxes}
use Rattle.boxes.proofs.Placing.{length_write}
use Rattle.boxes.proofs.Numbered.{count_append}
use Rattle.judge.specs.Acceptance.{Meets}
use Rattle.edit_offsets.specs.Close.{shut_box, closed, closed_at}
use Rattle.edit_offsets.proofs.ClosedFile.{length_closed, boxes_closed, after_closed}
use Rattle.edit_offsets.proofs.ClosingHere.{shut_one, closed_here}
use Rattle.edit_offsets.proofs.Accepted.{file_tiled}
use Rattle.edit_move.specs.Moving.{moov_second}
use Rattle.edit_move.specs.Arrange.{arranged, moov_at}
use Rattle.edit_move.proofs.Order.{second_length, second_is}
use Rattle.edit_move.proofs.Pieces.{pieces_are}
use Rattle.edit_move.proofs.Parted.{Parted}

module _ (xs : List ℕ) (v : Bytes xs) (m : Meets xs) {b : BoxAt} (p : Parted xs b) where
  -- ---- the bytes

  -- one box takes its size
  takes : (x : Box) → length (write (x ∷ [])) ≡ size x
  unfolding total
  takes x = length_write (x ∷ []) ∙ omega arith

  file_is : xs ≡ write (p.ftyp ∷ []) ++ (write p.mid ++ (write (box_at xs b ∷ []) ++ write p.end))
  file_is =
      sym (write_boxes xs v) ∙ rw (file_tiled xs m, append-nil, p.list)
      (write_append (p.ftyp ∷ []) (p.mid ++ box_at xs b ∷ p.end) ∙ rw (write_append p.mid (box_at xs b ∷ p.end)) (ap (λ (l : List ℕ). write (p.ftyp ∷ []) ++ (write p.mid ++ l)) (write_append (box_at xs b ∷ []) p.end)))

  order_is : write (p.ftyp ∷ (box_at xs b ∷ (p.mid ++ p.end))) ≡ write (p.ftyp ∷ []) ++ (write (box_at xs b ∷ []) ++ (write p.mid ++ write p.end))
  order_is =
      write_append (p.ftyp ∷ []) (box_at xs b ∷ (p.mid ++ p.end)) ∙ ap (λ (l : List ℕ). write (p.ftyp ∷ []) ++ l) (write_append (box_at xs b ∷ []) (p.mid ++ p.end))
      ∙ ap (λ (l : List ℕ). write (p.ftyp ∷ []) ++ (write (box_at xs b ∷ []) ++ l)) (write_append p.mid p.end)

  arranged_is : arranged (size p.ftyp) b xs ≡ write (p.ftyp ∷ (box_at xs b ∷ (p.mid ++ p.end)))
  arranged_is =
      ap (arranged (size p.ftyp) b) file_is
      ∙ pieces_are (write (p.ftyp ∷ [])) (write p.mid) (write (box_at xs b ∷ [])) (write p.end) (size p.ftyp) b
      (takes p.ftyp) (p.at ∙ ap (λ (n : ℕ). size p.ftyp + n) (sym (length_write p.mid))) (p.span ∙ sym (takes (box_at xs b)))
      ∙ sym order_is

  -- ---- `moov` closed where it then stands

  pub others_none : (count MOOV (p.ftyp ∷ []) ≡ 0) × (count MOOV (p.mid ++ p.end) ≡ 0)
  unfolding count
  others_none = (omega (arith, p.before), omega (arith, p.before, p.behind, count_append MOOV p.mid p.end))

  pub shut_is : boxes (closed xs) ≡ map shut_box (boxes xs)
  shut_is = boxes_closed xs v (omega (arith, m.most))

  pub second_shut : moov_second (boxes (closed xs)) ≡ p.ftyp ∷ (shut_box (box_at xs b) ∷ (p.mid ++ p.end))
  unfolding count
  second_shut =
      ap moov_second (shut_is ∙ ap (map shut_box) p.list ∙ shut_one (p.ftyp ∷ p.mid) (box_at xs b) p.end p.before p.behind)
      ∙ second_is (shut_box (box_at xs b)) p.end p.moov p.behind p.ftyp p.mid (omega (arith, p.before))

  pub closed_is : (rest : List ℕ) → closed_at (moov_at (size p.ftyp) b) (arranged (size p.ftyp) b xs ++ rest) ≡ write (moov_second (boxes (closed xs))) ++ rest
  unfolding total
  closed_is rest =
      let q : List Box = p.mid ++ p.end in
      ap (λ (ys : List ℕ). closed_at (moov_at (size p.ftyp) b) (ys ++ rest)) arranged_is
      ∙ closed_here (p.ftyp ∷ []) (box_at xs b) q rest (moov_at (size p.ftyp) b) p.moov others_none.0 others_none.1 (omega arith) refl p.span
      ∙ ap (λ (l : List Box). write l ++ rest) (shut_one (p.ftyp ∷ []) (box_at xs b) q others_none.0 others_none.1 ∙ sym second_shut)

  pub second_long : length (write (moov_second (boxes (closed xs)))) ≡ length xs
  second_long = omega (arith, second_length (boxes (closed xs)), lengths (closed xs), length_closed xs, ap length nothing_after)
    where
      nothing_after : after (closed xs) ≡ []
      nothing_after = after_closed xs v (omega (arith, m.most)) ∙ file_tiled xs m
