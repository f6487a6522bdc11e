-- The good frames of a part, with no fuel in sight. Assumes nothing.
use Prim.Native.Nat.{ℕ, zero, suc, ◌≤◌}
use native.Mathlib.Omega.{arith}
use mathlib.Core.Path.{◌≡◌, refl, sym, ap, ◌∙◌}
use mathlib.Core.Bool.{Bool, true, false}
use mathlib.Core.List.{List, [], ◌∷◌}
use lib.ListN.{length, take, drop, length-drop}
use Rattle.wire.specs.Tests.{pick}
use Rattle.frames.specs.declared.codec.Codec.{Codec}
use Rattle.frames.specs.Frames.{frame_size, good, frames_to, frames}
use Rattle.frames.proofs.Fronts.{short_not, size_least, size_inside}

-- ---- one frame more, and none

pub to_stop : (n : ℕ) (k : Codec) (xs : List ℕ) → good k xs ≡ false → frames_to n k xs ≡ []
unfolding frames_to
to_stop zero k xs e = refl
to_stop (suc n) k xs e = rw e

pub to_next : (n : ℕ) (k : Codec) (xs : List ℕ) → good k xs ≡ true
    → frames_to (suc n) k xs ≡ take (frame_size k xs) xs ∷ frames_to n k (drop (frame_size k xs) xs)
unfolding frames_to
to_next n k xs e = rw e

enough : (n m : ℕ) (k : Codec) (xs : List ℕ) → length xs ≤ n → length xs ≤ m → frames_to n k xs ≡ frames_to m k xs
unfolding frames_to
enough zero m k xs h g = sym (to_stop m k xs (short_not k xs (omega arith)))
enough (suc n) zero k xs h g = to_stop (suc n) k xs (short_not k xs (omega arith))
enough (suc n) (suc m) k xs h g = go (good k xs) refl (enough n m k (drop (frame_size k xs) xs))
  where
    go : (t : Bool) → good k xs ≡ t
        → (length (drop (frame_size k xs) xs) ≤ n → length (drop (frame_size k xs) xs) ≤ m
        → frames_to n k (drop (frame_size k xs) xs) ≡ frames_to m k (drop (frame_size k xs) xs))
        → pick t (take (frame_size k xs) xs ∷ frames_to n k (drop (frame_size k xs) xs)) []
        ≡ pick t (take (frame_size k xs) xs ∷ frames_to m k (drop (frame_size k xs) xs)) []
    go true e ih =
        let w = size_least k xs in
        let i = size_inside k xs e in
        ap (λ (l : List (List ℕ)). take (frame_size k xs) xs ∷ l) (ih (rw length-drop (omega arith)) (rw length-drop (omega arith)))
    go false e ih = refl

pub frames_enough : (n : ℕ) (k : Codec) (xs : List ℕ) → length xs ≤ n → frames_to n k xs ≡ frames k xs
unfolding frames
frames_enough n k xs h = enough n (length xs) k xs h (omega arith)

pub frames_stop : (k : Codec) (xs : List ℕ) → good k xs ≡ false → frames k xs ≡ []
unfolding frames
frames_stop k xs e = to_stop (length xs) k xs e

pub frames_next : (k : Codec) (xs : List ℕ) → good k xs ≡ true → frames k xs ≡ take (frame_size k xs) xs ∷ frames k (drop (frame_size k xs) xs)
frames_next k xs e =
    let w = size_least k xs in
    sym (frames_enough (suc (length xs)) k xs (omega arith))
    ∙ to_next (length xs) k xs e
    ∙ rw (frames_enough (length xs) k (drop (frame_size k xs) xs) (rw length-drop (omega arith)))

-- ---- by frames

-- what holds of no frames, of a part with no good one at its front, and of a good one and those past it where it holds of these, holds of the first n
module _ (k : Codec) (P : ℕ → List ℕ → List (List ℕ) → Type 0) (none : (xs : List ℕ) → P 0 xs [])
    (stop : (n : ℕ) (xs : List ℕ) → good k xs ≡ false → P (suc n) xs [])
    (more : (n : ℕ) (xs : List ℕ) (l : List (List ℕ)) → good k xs ≡ true → P n (drop (frame_size k xs) xs) l → P (suc n) xs (take (frame_size k xs) xs ∷ l)) where
  pub by_frames : (n : ℕ) (xs : List ℕ) → P n xs (frames_to n k xs)
  unfolding frames_to
  by_frames zero xs = none xs
  by_frames (suc n) xs = go (good k xs) refl (by_frames n (drop (frame_size k xs) xs))
    where
      l : List (List ℕ)
      l = frames_to n k (drop (frame_size k xs) xs)

      go : (t : Bool) → good k xs ≡ t → P n (drop (frame_size k xs) xs) l → P (suc n) xs (pick t (take (frame_size k xs) xs ∷ l) [])
      go true e ih = more n xs l e ih
      go false e ih = stop n xs e

-- they are the first n of all
pub to_take : (n : ℕ) (k : Codec) (xs : List ℕ) → frames_to n k xs ≡ take n (frames k xs)
to_take n k =
    by_frames k (λ m xs l. l ≡ take m (frames k xs)) (λ xs. refl) (λ m xs e. rw (frames_stop k xs e)) (λ m xs l e ih. rw (frames_next k xs e, ih)) n
