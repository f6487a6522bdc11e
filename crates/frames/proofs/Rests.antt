-- A part is its good frames, one after the other, and the rest; however many of them are taken, a bad one stops them. Assumes nothing.
use Prim.Native.Nat.{ℕ, ◌≤◌, ◌<◌}
use native.Mathlib.Omega.{arith}
use mathlib.Core.Path.{◌≡◌, refl, sym, ◌∙◌}
use mathlib.Core.Bool.{true, false}
use mathlib.Core.List.{List, [], ◌∷◌, ◌++◌, append_assoc, append-nil}
use lib.ListN.{length, take, drop, length-append, take-append-drop}
use lib.Seq.{drop-drop, length-take-le}
use Rattle.frames.specs.declared.codec.Codec.{Codec}
use Rattle.frames.specs.Frames.{frame_size, good, frames_to, frames, joined, rest}
use Rattle.frames.proofs.Fronts.{size_inside}
use Rattle.frames.proofs.Runs.{by_frames}

-- ---- the first n of the good frames, and what stands past them

-- what stands past frames at the front
abbrev past : List (List ℕ) → List ℕ → List ℕ
past l xs = drop (length (joined l)) xs

module _ (k : Codec) where
  -- past a good frame and those after it
  past_next : (l : List (List ℕ)) (xs : List ℕ) → good k xs ≡ true → past (take (frame_size k xs) xs ∷ l) xs ≡ past l (drop (frame_size k xs) xs)
  unfolding joined
  past_next l xs e = rw (length-append, length-take-le (frame_size k xs) xs (size_inside k xs e), drop-drop)

  -- they make up the part
  pub to_rest : (n : ℕ) (xs : List ℕ) → joined (frames_to n k xs) ++ past (frames_to n k xs) xs ≡ xs
  unfolding joined
  to_rest =
      by_frames k (λ n xs l. joined l ++ past l xs ≡ xs) (λ xs. refl) (λ n xs e. refl)
      (λ n xs l e ih. rw (past_next l xs e, append_assoc, ih) (take-append-drop (frame_size k xs) xs))

  -- where they are fewer, no good frame stands there
  pub to_bad : (n : ℕ) (xs : List ℕ) → length (frames_to n k xs) < n → good k (past (frames_to n k xs) xs) ≡ false
  unfolding joined
  to_bad =
      by_frames k (λ n xs l. length l < n → good k (past l xs) ≡ false) (λ xs h. absurd (omega arith)) (λ n xs e h. e)
      (λ n xs l e ih h. rw (past_next l xs e) (ih (omega arith)))

  pub to_most : (n : ℕ) (xs : List ℕ) → length (frames_to n k xs) ≤ n
  to_most = by_frames k (λ n xs l. length l ≤ n) (λ xs. omega arith) (λ n xs e. omega arith) (λ n xs l e ih. omega arith)

  -- they take no more bytes than there are
  pub to_inside : (n : ℕ) (xs : List ℕ) → length (joined (frames_to n k xs)) ≤ length xs
  to_inside n xs =
      let l = length-append (joined (frames_to n k xs)) (past (frames_to n k xs) xs) in
      let e = rw (to_rest n xs) at l in
      omega arith

-- ---- all of them

-- where nothing is left, they are all of it
pub frames_whole : (k : Codec) (xs : List ℕ) → rest k xs ≡ [] → joined (frames k xs) ≡ xs
unfolding frames rest
frames_whole k xs e = sym (append-nil (joined (frames k xs))) ∙ rw e at (to_rest k (length xs) xs)
