-- Why a sample fails, test by test, as one pass over its frames tells. Assumes nothing.
use Prim.Native.Nat.{ℕ, ◌-◌, ◌≤◌, ◌<◌}
use native.Mathlib.Omega.{arith}
use mathlib.Core.Path.{◌≡◌, refl, sym, ◌∙◌}
use mathlib.Core.Bool.{Bool, true, false}
use mathlib.Core.List.{List, [], ◌∷◌}
use lib.ListN.{length, length-drop}
use Rattle.wire.proofs.Clauses.{is_eq_lem, not_eq}
use Rattle.frames.specs.declared.codec.Codec.{Codec}
use Rattle.frames.specs.declared.run.Run.{Run}
use Rattle.frames.specs.Frames.{frames_to, frames, joined, rest}
use Rattle.frames.specs.Modes.{RunOf}
use Rattle.std.specs.declared.option.Option.{Option}
use Rattle.std.specs.declared.option.Option.TheVariants.{Some, None}
use Rattle.modes.specs.declared.reason.Reason.{Reason}
use Rattle.modes.specs.declared.reason.Reason.TheVariants.{BadFrame, WrongCount, BitNotSet}
use Rattle.modes.specs.declared.speech.Speech.{Speech}
use Rattle.modes.specs.Sample.{whole_frames, count_fits, all_set, first_not, why}

-- ---- tests in their order

module _ (n : Reason) (t : Bool) (ts : List (Reason × Bool)) where
  pub first_not_lem : t ≡ false → Some n ≡ first_not ((n, t) ∷ ts)
  unfolding first_not
  first_not_lem e = rw e

  pub later : {r : Option Reason} → t ≡ true → r ≡ first_not ts → r ≡ first_not ((n, t) ∷ ts)
  unfolding first_not
  later e f = rw e f

pub no_more : None ≡ first_not []
unfolding first_not
no_more = refl

-- ---- the pass over all frames

module _ (k : Codec) (xs : List ℕ) {r : Run} (u : RunOf (frames_to (length xs) k xs) r) where
  pub run_count : r.count ≡ length (frames k xs)
  unfolding frames
  run_count = u.count

  rest_length : length (rest k xs) ≡ length xs - r.bytes
  unfolding rest frames
  rest_length = length-drop (length (joined (frames_to (length xs) k xs))) xs ∙ rw u.bytes

  pub run_torn : r.bytes < length xs → whole_frames k xs ≡ false
  unfolding whole_frames
  run_torn h = not_eq _ _ (λ e. omega (arith, rest_length))

  pub run_whole : length xs ≤ r.bytes → whole_frames k xs ≡ true
  unfolding whole_frames
  run_whole h = is_eq_lem _ _ (omega (arith, rest_length))

-- ---- all of it

module _ (d : Speech) (left : ℕ) (xs : List ℕ) {r : Run} (u : RunOf (frames_to (length xs) d.codec xs) r) where
  pub why_torn : r.bytes < length xs → Some BadFrame ≡ why d left xs
  unfolding why
  why_torn h = first_not_lem BadFrame _ _ (run_torn d.codec xs u h)

  module _ (h : length xs ≤ r.bytes) {i : Bool} (e : i ≡ count_fits d.frames left r.count) where
    counted : i ≡ count_fits d.frames left (length (frames d.codec xs))
    counted = rw (run_count d.codec xs u) at e

    pub why_count : i ≡ false → Some WrongCount ≡ why d left xs
    unfolding why
    why_count z = later BadFrame _ _ (run_whole d.codec xs u h) (first_not_lem WrongCount _ _ (sym counted ∙ z))

    module _ (z : i ≡ true) {j : Bool} (f : j ≡ all_set d.modes (frames d.codec xs)) where
      past_two : {n : Option Reason} → n ≡ first_not ((BitNotSet, all_set d.modes (frames d.codec xs)) ∷ []) → n ≡ why d left xs
      unfolding why
      past_two e = later BadFrame _ _ (run_whole d.codec xs u h) (later WrongCount _ _ (sym counted ∙ z) e)

      pub why_bits : j ≡ false → Some BitNotSet ≡ why d left xs
      why_bits y = past_two (first_not_lem BitNotSet _ _ (sym f ∙ y))

      pub why_none : j ≡ true → None ≡ why d left xs
      why_none y = past_two (later BitNotSet _ _ (sym f ∙ y) no_more)
