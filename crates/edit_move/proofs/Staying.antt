-- A file whose `moov` is second already comes out closed, and else as it was. Assumes nothing.
use Prim.Native.Nat.{ℕ}
use native.Mathlib.Omega.{arith}
use mathlib.Core.Path.{◌≡◌, refl, sym, ap, ◌∙◌}
use mathlib.Core.List.{List, [], ◌∷◌, ◌++◌, map, append-nil}
use Rattle.wire.specs.Numbers.{Bytes}
use Rattle.codes.specs.Codes.{MOOV}
use Rattle.boxes.specs.Box.{Box, write}
use Rattle.boxes.specs.Boxes.{boxes}
use Rattle.boxes.specs.Seek.{count}
use Rattle.boxes.proofs.Meaning.{meant_yes}
use Rattle.judge.specs.Acceptance.{Meets}
use Rattle.edit_offsets.specs.Close.{shut_box, closed}
use Rattle.edit_offsets.specs.Settle.{settled}
use Rattle.edit_offsets.proofs.Closing.{shut_count}
use Rattle.edit_offsets.proofs.ClosedFile.{boxes_closed, bytes_closed, alike_closed}
use Rattle.edit_offsets.proofs.Accepted.{file_tiled, one_moov}
use Rattle.edit_offsets.proofs.Settled.{settled_same}
use Rattle.edit_move.specs.Moving.{moov_second, move_of}
use Rattle.edit_move.proofs.Order.{second_is}

module _ (xs : List ℕ) (v : Bytes xs) (m : Meets xs) where
  -- the closed file is its boxes, written
  pub file_write : write (boxes (closed xs)) ≡ closed xs
  unfolding closed
  file_write = ap write (boxes_closed xs v (omega (arith, m.most))) ∙ sym (append-nil _) ∙ ap (λ (r : List ℕ). write (map shut_box (boxes xs)) ++ r) (sym (file_tiled xs m))

  module _ (x y : Box) (l : List Box) (e : boxes xs ≡ x ∷ (y ∷ l)) (h : y.code ≡ MOOV) where
    none_left : count MOOV l ≡ 0
    unfolding count
    none_left = omega (arith, one_moov xs m, ap (count MOOV) e, meant_yes MOOV y.code (λ z. omega arith) h)

    pub move_stays : move_of xs ≡ closed xs
    unfolding move_of count
    move_stays =
        let k : boxes (closed xs) ≡ shut_box x ∷ (shut_box y ∷ map shut_box l) = boxes_closed xs v (omega (arith, m.most)) ∙ ap (map shut_box) e in
        let s : moov_second (boxes (closed xs)) ≡ boxes (closed xs) = ap moov_second k ∙ second_is (shut_box y) (map shut_box l) h (shut_count MOOV l ∙ none_left) (shut_box x) [] refl ∙ sym k in
        ap (settled xs) (ap write s ∙ file_write) ∙ settled_same xs (closed xs) (alike_closed xs v (omega (arith, m.most))) (bytes_closed xs v (omega (arith, m.most)))
