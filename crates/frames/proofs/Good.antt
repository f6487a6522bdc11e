-- Each frame of a part is a good one, and good frames one after the other are read as they are. Assumes nothing.
use Prim.Native.Nat.{ℕ, ◌≤◌}
use native.Mathlib.Omega.{arith}
use mathlib.Core.Path.{◌≡◌, sym, ◌∙◌}
use mathlib.Core.Bool.{true}
use mathlib.Core.List.{List, [], ◌∷◌, ◌++◌}
use lib.ListN.{length, take, length-append, get_or-append}
use lib.Seq.{get_or-take, length-take-le, take-append_seam, drop-append_seam}
use Rattle.frames.specs.declared.codec.Codec.{Codec}
use Rattle.frames.specs.Frames.{header_of, type_of, frame_size, good, frames_to, frames, joined, EachGood, none, some}
use Rattle.frames.proofs.Fronts.{front_good, good_front, short_not, size_least, size_inside}
use Rattle.frames.proofs.Runs.{frames_stop, frames_next, by_frames}

-- ---- a frame goes by its header, and by the bytes that it needs

module _ (k : Codec) (xs ys : List ℕ) (e : header_of xs ≡ header_of ys) where
  pub size_alike : frame_size k xs ≡ frame_size k ys
  unfolding frame_size type_of
  size_alike = rw e

  pub good_alike : good k ys ≡ true → frame_size k ys ≤ length xs → good k xs ≡ true
  unfolding type_of
  good_alike g l =
      let f = good_front k ys g in
      front_good k xs
      (record { there = omega (arith, size_least k ys); high = rw e f.high; low = rw e f.low; known = rw e f.known; inside = rw size_alike l })

module _ (k : Codec) (xs : List ℕ) (g : good k xs ≡ true) where
  header_taken : header_of (take (frame_size k xs) xs) ≡ header_of xs
  header_taken = get_or-take (frame_size k xs) xs 0 0 (size_least k xs)

  length_taken : length (take (frame_size k xs) xs) ≡ frame_size k xs
  length_taken = length-take-le (frame_size k xs) xs (size_inside k xs g)

  size_taken : frame_size k (take (frame_size k xs) xs) ≡ length (take (frame_size k xs) xs)
  size_taken = size_alike k (take (frame_size k xs) xs) xs header_taken ∙ sym length_taken

  good_taken : good k (take (frame_size k xs) xs) ≡ true
  good_taken = good_alike k (take (frame_size k xs) xs) xs header_taken g (omega (arith, length_taken))

-- ---- each frame of a part

pub each_good : (n : ℕ) (k : Codec) (xs : List ℕ) → EachGood k (frames_to n k xs)
each_good n k =
    by_frames k (λ m xs l. EachGood k l) (λ xs. none) (λ m xs e. none) (λ m xs l e ih. some (good_taken k xs e) (size_taken k xs e) ih) n

pub frames_good : (k : Codec) (xs : List ℕ) → EachGood k (frames k xs)
unfolding frames
frames_good k xs = each_good (length xs) k xs

-- ---- good frames one after the other

module _ (k : Codec) (f ys : List ℕ) (g : good k f ≡ true) (s : frame_size k f ≡ length f) where
  header_before : header_of (f ++ ys) ≡ header_of f
  header_before = get_or-append f ys 0 0 (good_front k f g).there

  size_before : frame_size k (f ++ ys) ≡ length f
  size_before = size_alike k (f ++ ys) f header_before ∙ s

  good_before : good k (f ++ ys) ≡ true
  good_before = good_alike k (f ++ ys) f header_before g (rw (s, length-append) (omega arith))

  pub frames_cons : frames k (f ++ ys) ≡ f ∷ frames k ys
  frames_cons = frames_next k (f ++ ys) good_before ∙ rw (size_before, take-append_seam, drop-append_seam)

pub frames_again : (k : Codec) (l : List (List ℕ)) → EachGood k l → frames k (joined l) ≡ l
unfolding joined
frames_again k [] none = frames_stop k [] (short_not k [] (omega arith))
frames_again k (f ∷ l) (some g s h) = frames_cons k f (joined l) g s ∙ rw (frames_again k l h)
