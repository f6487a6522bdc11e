-- A part of which one box has its body by f. Assumes nothing.
use Prim.Native.Nat.{ℕ, ◌+◌, ◌≤◌, ◌<◌}
use native.Mathlib.Omega.{arith}
use mathlib.Core.Path.{◌≡◌, sym}
use mathlib.Core.List.{List}
use lib.ListN.{length, length-append}
use Rattle.wire.specs.Numbers.{Bytes}
use Rattle.wire.proofs.Numbers.{bytes_append}
use Rattle.boxes.specs.Box.{Box, write, remade}
use Rattle.boxes.specs.Boxes.{boxes, after}
use Rattle.boxes.specs.Seek.{meant, count, nth}
use Rattle.boxes.specs.Way.{nth_by, over_nth}
use Rattle.boxes.specs.Kin.{All2}
use Rattle.boxes.proofs.Whole.{Good}
use Rattle.boxes.proofs.Reading.{All, Shut, parts, lengths, bytes_after}
use Rattle.boxes.proofs.Rewriting.{bytes_write}
use Rattle.boxes.proofs.OneOfList.{list_here, list_other}
use Rattle.boxes.proofs.OneAmong.{nth_all, nth_shut, nth_all2, nth_by_length}
use Rattle.boxes.proofs.Written.{boxes_write, after_write}

module _ (c n : ℕ) (f : List ℕ → List ℕ) (xs : List ℕ) where
  -- what grows by at most m in a body grows by at most m in all
  pub over_nth_length : (m : ℕ) → ((b : List ℕ) → length (f b) ≤ length b + m) → length (over_nth c n f xs) ≤ length xs + m
  unfolding over_nth
  over_nth_length m g = omega (arith, length-append (write (nth_by c n f (boxes xs))) (after xs), nth_by_length c f m g n (boxes xs), lengths xs)

  module _ (v : Bytes xs) where
    pub bytes_nth : ((b : List ℕ) → Bytes b → Bytes (f b)) → Bytes (over_nth c n f xs)
    unfolding over_nth
    bytes_nth fb = bytes_append (write (nth_by c n f (boxes xs))) (after xs) (bytes_write (nth_all c f (λ x w. fb x.body w) n (boxes xs) (parts xs v).filled)) (bytes_after xs v)

    module _ (s : length (over_nth c n f xs) < 4294967296) where
      few : length (write (nth_by c n f (boxes xs))) < 4294967296
      unfolding over_nth
      few = omega (arith, length-append (write (nth_by c n f (boxes xs))) (after xs))

      good : All Good (nth_by c n f (boxes xs))
      good = nth_all c f (λ x g. record { code = g.code }) n (boxes xs) (parts xs v).good

      shut : Shut (after xs) (nth_by c n f (boxes xs))
      shut = nth_shut c f n (boxes xs) (parts xs v).shut

      pub boxes_nth : boxes (over_nth c n f xs) ≡ nth_by c n f (boxes xs)
      unfolding over_nth
      boxes_nth = boxes_write (after xs) (parts xs v).rest good shut few

      pub after_nth : after (over_nth c n f xs) ≡ after xs
      unfolding over_nth
      after_nth = after_write (after xs) (parts xs v).rest good shut few

      -- box by box
      pub over_level : (R : Box → Box → Type 0) → ((x : Box) → R x x)
          → ((x : Box) → meant c x.code ≡ 1 → x.body ≡ nth c n (boxes xs) → Bytes x.body → length (f x.body) < 4294967296 → R x (remade x (f x.body))) → All2 R (boxes xs) (boxes (over_nth c n f xs)) × (after xs ≡ after (over_nth c n f xs))
      over_level R z k = (rw boxes_nth (nth_all2 c f R z n (boxes xs) (parts xs v).filled few k), sym after_nth)

      -- the n-th box has its body by f
      pub nth_here : n < count c (boxes xs) → nth c n (boxes (over_nth c n f xs)) ≡ f (nth c n (boxes xs))
      nth_here h = rw boxes_nth (list_here c f n (boxes xs) h)

      -- and every other has its own
      pub nth_other : (u : ℕ) → (u ≡ n → ⊥) → nth c u (boxes (over_nth c n f xs)) ≡ nth c u (boxes xs)
      nth_other u z = rw boxes_nth (list_other c f n u z (boxes xs))
