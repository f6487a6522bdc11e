-- What the calls cite. Assumes nothing.
use Prim.Native.Nat.{ℕ, ◌+◌, ◌≤◌}
use native.Mathlib.Omega.{arith}
use mathlib.Core.Path.{◌≡◌, ap, ◌∙◌}
use mathlib.Core.List.{List, []}
use lib.ListN.{length}
use Rattle.wire.specs.Numbers.{Bytes}
use Rattle.codes.specs.Codes.{MOOV}
use Rattle.wire.specs.Writing.{Wrote, Put}
use Rattle.boxes.specs.declared.walk.BoxAt.{BoxAt}
use Rattle.boxes.specs.Box.{size, write}
use Rattle.boxes.specs.Boxes.{boxes, after}
use Rattle.boxes.specs.Seek.{ANY, count, place_in, Cut}
use Rattle.boxes.specs.Walk.{payload}
use Rattle.boxes.specs.Rewrite.{edit_in, in_body}
use Rattle.boxes.specs.Words.{reword_leaf, moved}
use Rattle.boxes.proofs.Reading.{lengths}
use Rattle.judge.specs.Acceptance.{Meets}
use Rattle.edit_offsets.specs.Close.{closed, closed_at}
use Rattle.edit_offsets.specs.Settle.{offsets}
use Rattle.edit_offsets.proofs.ClosedFile.{length_closed, after_closed}
use Rattle.edit_offsets.proofs.Settled.{settled_length}
use Rattle.edit_offsets.proofs.Accepted.{file_tiled, one_moov}
use Rattle.edit_move.specs.Moving.{moov_second, move_of}
use Rattle.edit_move.specs.Arrange.{arranged, up, moov_at}
use Rattle.edit_move.proofs.Order.{second_length}
use Rattle.edit_move.proofs.Pieces.{pieces_length}
use Rattle.edit_move.proofs.Parted.{Parted, parted, second_place}
use Rattle.edit_move.proofs.Moved.{moved_wrote}

-- ---- a file that meets the rules

module _ (xs : List ℕ) (m : Meets xs) where
  -- the result is as long as the file
  pub move_length : Bytes xs → length (move_of xs) ≡ length xs
  unfolding move_of
  move_length v =
      let n : after (closed xs) ≡ [] = after_closed xs v (omega (arith, m.most)) ∙ file_tiled xs m in
      settled_length xs (write (moov_second (boxes (closed xs)))) ∙ second_length (boxes (closed xs)) ∙ omega (arith, lengths (closed xs), ap length n, length_closed xs)

  -- it has a `moov`
  pub move_none : count MOOV (boxes xs) ≤ 0 → ⊥
  move_none h = omega (arith, one_moov xs m)

  module _ (v : Bytes xs) {b : BoxAt} (c : Cut xs MOOV 0 b) (f : ℕ) (e : f ≡ place_in ANY 1 (boxes xs)) where
    parts : Parted xs b
    parts = parted xs v m c

    from : f ≡ size parts.ftyp
    from = e ∙ ap (place_in ANY 1) parts.list ∙ second_place parts.ftyp _

    pub move_from : f ≤ b.at
    move_from = omega (arith, from, parts.at)

    -- all of it fits
    pub move_room : {out mid : List ℕ} {n : ℕ} → Put (arranged f b xs) out 0 n mid → length xs ≤ length out → (n ≤ length out) × (f + b.span ≤ length mid)
    move_room s l = (omega (arith, s.next, pieces_length f b xs move_from c.inside), omega (arith, s.same, move_from, c.inside))

    pub move_done : {out mid shut after : List ℕ} {n : ℕ} → Put (arranged f b xs) out 0 n mid → length xs ≤ length out → shut ≡ closed_at (moov_at f b) mid
        → after ≡ in_body shut (moov_at f b) (edit_in (reword_leaf offsets (moved (up b))) 5 MOOV (payload shut (moov_at f b))) → Wrote (move_of xs) out n after
    move_done s l d q = moved_wrote xs v m parts (rw from at s) (move_room s l).0 (rw from at d) (rw from at q)
