-- The file with its `moov` closed: its boxes, length and bytes. Assumes nothing.
use Prim.Native.Nat.{ℕ, ◌<◌}
use native.Mathlib.Omega.{arith}
use mathlib.Core.Path.{◌≡◌, sym, ◌∙◌}
use mathlib.Core.List.{List, map}
use lib.ListN.{length, length-append}
use Rattle.wire.specs.Numbers.{Bytes}
use Rattle.wire.proofs.Numbers.{bytes_append}
use Rattle.boxes.specs.Box.{Box, write}
use Rattle.boxes.specs.Boxes.{boxes, after}
use Rattle.boxes.specs.Containers.{FILE, DEPTH}
use Rattle.boxes.specs.Kin.{All2, Leaf, Kin}
use Rattle.boxes.proofs.Reading.{parts, lengths, bytes_after}
use Rattle.boxes.proofs.Written.{boxes_write, after_write}
use Rattle.boxes.proofs.Rewriting.{bytes_write}
use Rattle.boxes.proofs.Kin.{Then, kin_then, kin_less}
use Rattle.boxes.proofs.Pairs.{all2_then}
use Rattle.mdat.specs.Relocate.{Alike}
use Rattle.edit_offsets.specs.Close.{shut_box, closed}
use Rattle.edit_offsets.proofs.Closing.{shut_length, shut_each, shut_shut, shut_alike, Equal, shut_kin}

module _ (xs : List ℕ) where
  pub length_closed : length (closed xs) ≡ length xs
  unfolding closed
  length_closed = rw (length-append, shut_length (boxes xs)) (lengths xs)

  module _ (v : Bytes xs) (s : length xs < 4294967296) where
    few : length (write (map shut_box (boxes xs))) < 4294967296
    few = omega (arith, shut_length (boxes xs), lengths xs)

    pub boxes_closed : boxes (closed xs) ≡ map shut_box (boxes xs)
    unfolding closed
    boxes_closed = boxes_write (after xs) (parts xs v).rest (shut_each (λ x g. record { code = g.code }) (parts xs v).good) (shut_shut (parts xs v).shut) few

    pub after_closed : after (closed xs) ≡ after xs
    unfolding closed
    after_closed = after_write (after xs) (parts xs v).rest (shut_each (λ x g. record { code = g.code }) (parts xs v).good) (shut_shut (parts xs v).shut) few

    pub bytes_closed : Bytes (closed xs)
    unfolding closed
    bytes_closed = bytes_append (write (map shut_box (boxes xs))) (after xs) (bytes_write (shut_each (λ x p. p) (parts xs v).filled)) (bytes_after xs v)

    pub kin_closed : Kin Equal DEPTH FILE xs (closed xs)
    kin_closed = (rw boxes_closed (shut_kin 5 (boxes xs)), sym after_closed)

    pub alike_closed : All2 Alike (boxes xs) (boxes (closed xs))
    alike_closed = rw boxes_closed (shut_alike (boxes xs))

    -- what differs from the closed file differs so from the file
    pub closed_kin : (G : Leaf) (ys : List ℕ) → Kin G DEPTH FILE (closed xs) ys → Kin G DEPTH FILE xs ys
    closed_kin G ys a = kin_less (Then Equal G) G (λ k c b b'' r. rw r.1 r.2) DEPTH FILE xs ys (kin_then Equal G DEPTH FILE xs (closed xs) ys kin_closed a)

    -- what has the layout of the closed file has that of the file
    pub alike_then : {m : List Box} → All2 Alike (boxes (closed xs)) m → All2 Alike (boxes xs) m
    alike_then a = all2_then (λ x y z r s. record { head = r.head ∙ s.head; code = r.code ∙ s.code; long = r.long ∙ s.long }) alike_closed a
