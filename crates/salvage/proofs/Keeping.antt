-- What is kept and what is dropped make up the payload; what is kept are good frames, and a bad one or the most stop them. Assumes nothing.
use Prim.Native.Nat.{ℕ, ◌+◌, ◌-◌, ◌≤◌, ◌<◌}
use native.Mathlib.Omega.{arith}
use mathlib.Core.Path.{◌≡◌}
use mathlib.Core.Bool.{false}
use mathlib.Core.List.{List, [], ◌++◌}
use lib.ListN.{length, drop, length-drop, drop_of_length-le}
use lib.Seq.{drop-drop}
use Rattle.wire.proofs.Tests.{lt_or}
use Rattle.boxes.specs.Boxes.{HEAD}
use Rattle.frames.specs.declared.codec.Codec.{Codec}
use Rattle.frames.specs.Frames.{good, frames, EachGood}
use Rattle.frames.proofs.Good.{each_good, frames_again}
use Rattle.frames.proofs.Rests.{to_rest, to_bad, to_most, to_inside}
use Rattle.from_amr.specs.Dump.{MOST_FRAMES}
use Rattle.salvage.specs.Unfinished.{size_field}
use Rattle.salvage.specs.Salvage.{payload_of, kept_frames, kept, dropped, first_dropped}

-- a place by what stands from it on
from_place : (n : ℕ) (xs : List ℕ) → drop (length xs - length (drop n xs)) xs ≡ drop n xs
from_place n xs =
    lt_or (length xs) n
    (λ h.
    let e : drop n xs ≡ [] = drop_of_length-le xs {i = n} (omega arith) in
    rw e (drop_of_length-le xs {i = length xs - 0} (omega arith)))
    (λ h. let e : length xs - length (drop n xs) ≡ n = omega (arith, length-drop n xs) in rw e)

module _ (k : Codec) (xs : List ℕ) where
  pub kept_good : EachGood k (kept_frames k xs)
  unfolding kept_frames
  kept_good = each_good MOST_FRAMES k (payload_of xs)

  pub kept_most : length (kept_frames k xs) ≤ MOST_FRAMES
  unfolding kept_frames
  kept_most = to_most k MOST_FRAMES (payload_of xs)

  -- "kept bytes and dropped bytes make up the payload"
  pub kept_dropped : kept k xs ++ dropped k xs ≡ payload_of xs
  unfolding kept_frames dropped
  kept_dropped = to_rest k MOST_FRAMES (payload_of xs)

  -- "up to the first bad one or 65,536"
  pub kept_until : length (kept_frames k xs) < MOST_FRAMES → good k (dropped k xs) ≡ false
  unfolding kept_frames dropped
  kept_until h = to_bad k MOST_FRAMES (payload_of xs) h

  pub kept_inside : length (kept k xs) ≤ length (payload_of xs)
  unfolding kept_frames
  kept_inside = to_inside k MOST_FRAMES (payload_of xs)

  -- what is kept is read as it was
  pub kept_again : frames k (kept k xs) ≡ kept_frames k xs
  kept_again = frames_again k (kept_frames k xs) kept_good

  -- they are dropped from the place on that is told, to the end of the file
  pub first_dropped_lem : drop (first_dropped k xs) xs ≡ dropped k xs
  unfolding payload_of dropped
  first_dropped_lem = rw (drop-drop, drop-drop) (from_place (size_field xs + (HEAD + length (kept k xs))) xs)
