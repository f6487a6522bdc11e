-- The bits of the types of frames. Assumes nothing.
use Prim.Native.Nat.{ℕ, ◌+◌, ◌-◌, ◌/◌, ◌%◌, ◌≤◌, ◌<◌}
use native.Mathlib.Omega.{arith}
use mathlib.Core.Path.{◌≡◌, refl, sym, ◌∙◌}
use mathlib.Core.Bool.{Bool, true, false}
use mathlib.Core.List.{List}
use lib.ListN.{length, get_or, take, drop}
use lib.Seq.{drop-drop}
use Rattle.std.specs.declared.option.Option.{Option}
use Rattle.std.specs.declared.option.Option.TheVariants.{Some, None}
use Rattle.wire.specs.Tests.{pick}
use Rattle.frames.specs.declared.codec.Codec.{Codec}
use Rattle.frames.specs.Frames.{type_of, frame_size, good, frames}
use Rattle.frames.proofs.Fronts.{size_least}
use Rattle.frames.proofs.Answers.{front_was, front_was_none}
use Rattle.frames.proofs.Runs.{frames_stop, frames_next}
use Rattle.frames.proofs.Reading.{type_next, next_inside}
use Rattle.modes.specs.Sample.{bit_set, all_set}

-- ---- the loop over the frames

-- those before a place have their bits
pub record Setting (modes : ℕ) (k : Codec) (xs : List ℕ) (at : ℕ) : Type 0 where
  pub same : all_set modes (frames k xs) ≡ all_set modes (frames k (drop at xs))
  pub inside : at ≤ length xs

pub setting_none : (modes : ℕ) (k : Codec) (xs : List ℕ) → Setting modes k xs 0
setting_none modes k xs = record { same = refl; inside = omega arith }

module _ {modes : ℕ} {k : Codec} {xs : List ℕ} {at : ℕ} (s : Setting modes k xs at) (ys : List ℕ) (o : Option ℕ) (y : ys ≡ drop at xs)
    (f : o ≡ pick (good k ys) (Some (frame_size k ys)) None) where
  -- no frame more
  pub setting_all : o ≡ None → true ≡ all_set modes (frames k xs)
  unfolding all_set
  setting_all z =
      let g = front_was_none (good k (drop at xs)) (frame_size k (drop at xs)) o (rw y at f) z in
      sym (s.same ∙ rw (frames_stop k (drop at xs) g))

  module _ {size : ℕ} (z : o ≡ Some size) where
    was : (good k (drop at xs) ≡ true) × (size ≡ frame_size k (drop at xs))
    was = front_was (good k (drop at xs)) (frame_size k (drop at xs)) o (rw y at f) z

    -- fewer bytes are left
    pub setting_less : length xs - (at + size) < length xs - at
    setting_less = omega (arith, next_inside k xs at size was.0 was.1 s.inside, was.1, size_least k (drop at xs))

  -- one more, of type h / 8 % 16
  module _ {size : ℕ} (z : o ≡ Some size) (h : ℕ) (e : h ≡ get_or xs at 0) where
    next : all_set modes (frames k xs) ≡ pick (bit_set modes (h / 8 % 16)) (all_set modes (frames k (drop (at + size) xs))) false
    unfolding all_set
    next =
        let d : drop (frame_size k (drop at xs)) (drop at xs) ≡ drop (at + size) xs = rw (was z).1 (drop-drop (frame_size k (drop at xs)) at xs) in
        let n = type_next k xs at size (was z).0 (was z).1 h e in
        let t : type_of (take (frame_size k (drop at xs)) (drop at xs)) ≡ h / 8 % 16 = rw (was z).1 at (sym n) in
        s.same ∙ rw (frames_next k (drop at xs) (was z).0, t, d)

    module _ {i : Bool} (b : i ≡ bit_set modes (h / 8 % 16)) where
      pub setting_not : i ≡ false → false ≡ all_set modes (frames k xs)
      setting_not w = sym (next ∙ rw (sym b ∙ w))

      pub setting_more : i ≡ true → Setting modes k xs (at + size)
      setting_more w = record { same = next ∙ rw (sym b ∙ w); inside = next_inside k xs at size (was z).0 (was z).1 s.inside }
