-- What one step of a walk over plain boxes alone says of the boxes. Assumes nothing.
use Prim.Native.Nat.{ℕ, ◌+◌, ◌≤◌, ◌<◌}
use native.Mathlib.Omega.{arith}
use mathlib.Core.Path.{◌≡◌, refl, sym, ap, subst, ◌∙◌}
use mathlib.Core.Bool.{Bool, true, false}
use mathlib.Core.List.{List}
use lib.ListN.{length, drop, length-drop}
use Rattle.wire.specs.Tests.{pick}
use Rattle.wire.specs.Numbers.{word}
use Rattle.boxes.specs.declared.walk.Form.TheVariants.{Plain}
use Rattle.boxes.specs.declared.walk.Walk.{Walk}
use Rattle.boxes.specs.declared.walk.Says.{Says}
use Rattle.boxes.specs.declared.walk.BoxAt.{BoxAt}
use Rattle.boxes.specs.declared.walk.Step.{Step}
use Rattle.boxes.specs.declared.walk.Step.TheVariants.{Found, End, Broken}
use Rattle.boxes.specs.Box.{head_of, is_plain}
use Rattle.boxes.specs.Boxes.{form_of, size_by, head_front, size_of, whole}
use Rattle.boxes.specs.Walk.{said_by, step_at, plainly, Ran, Over, Stepped, PlainlyStepped}
use Rattle.boxes.proofs.Whole.{form_by, whole_true}
use Rattle.boxes.proofs.Walking.{stepped, step_broken, step_not, box_by, step_found, field_at, said_plain}

module _ (xs : List ℕ) (at : ℕ) where
  pub plainly_stepped : PlainlyStepped xs at (plainly at (step_at xs at))
  plainly_stepped = go (step_at xs at) (stepped xs at)
    where
      by : (t : Bool) (b : BoxAt) (w : Walk) → is_plain b.form ≡ t → Ran xs at b w → PlainlyStepped xs at (pick t (Found b w) (Broken at))
      by true b w e r = (r, e)
      by false b w e r = refl

      go : (s : Step) → Stepped xs at s → PlainlyStepped xs at (plainly at s)
      go (Found b w) r = by (is_plain b.form) b w refl r
      go End o = o
      go (Broken p) o = refl

  pub plain_ran : (s : Step) (b : BoxAt) (w : Walk) → s ≡ plainly at (step_at xs at) → s ≡ Found b w → Ran xs at b w × (is_plain b.form ≡ true)
  plain_ran s b w e f = subst (PlainlyStepped xs at) (sym e ∙ f) plainly_stepped

  pub plain_ended : (s : Step) → s ≡ plainly at (step_at xs at) → s ≡ End → Over xs at × (length xs ≤ at)
  plain_ended s e f = subst (PlainlyStepped xs at) (sym e ∙ f) plainly_stepped

  -- a header of eight bytes that says its size, and one that doesn't
  pub plain_not : {n : ℕ} → n ≡ word 4 xs at → 8 ≤ n → at < length xs → length xs < at + n → Broken at ≡ plainly at (step_at xs at)
  plain_not e h l k =
      let s = ap (λ (r : Says). r.span) (said_plain xs at e (omega arith)) in
      ap (plainly at) (step_not xs at l (λ u v. omega arith))

  pub plain_found : {n : ℕ} → n ≡ word 4 xs at → 8 ≤ n → at + n ≤ length xs
      → Found (record { at = at; form = Plain; head = 8; span = n; code = word 4 xs (at + 4) }) (record { at = at + n }) ≡ plainly at (step_at xs at)
  plain_found e h l =
      let q = said_plain xs at e (omega arith) in
      let s = ap (λ (r : Says). r.span) q in
      let t = ap (λ (r : Says). r.head) q in
      ap (plainly at) (ap (box_by xs at) q ∙ step_found xs at (omega arith) (omega arith))

  unplain : word 4 xs at < 8 → head_front (drop at xs) ≤ size_of (drop at xs) → is_plain (form_of (drop at xs)) ≡ false
  unplain h = form_by (λ f. head_of f ≤ size_by f (drop at xs) → is_plain f ≡ false) (drop at xs) (λ e k. refl) (λ e k. refl) (λ e f k. absurd (omega (arith, field_at xs at)))

  pub plain_short : {n : ℕ} → n ≡ word 4 xs at → n < 8 → at < length xs → Broken at ≡ plainly at (step_at xs at)
  plain_short q h l = go (whole (drop at xs)) refl
    where
      go : (t : Bool) → whole (drop at xs) ≡ t → Broken at ≡ plainly at (step_at xs at)
      go false e = ap (plainly at) (step_broken xs at l e)
      go true e =
          let w = whole_true (drop at xs) e in
          let f : plainly at (box_by xs at (said_by (drop at xs))) ≡ Broken at = rw (unplain (omega arith) w.0) in
          sym f ∙ ap (plainly at) (step_found xs at w.0 (omega (arith, length-drop at xs)))
