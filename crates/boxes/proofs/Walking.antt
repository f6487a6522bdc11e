-- What one step of the walk says of the boxes: the one bridge between places and the list. Assumes nothing.
use Prim.Native.Nat.{ℕ, ◌+◌, ◌-◌, ◌≤◌, ◌<◌}
use native.Mathlib.Omega.{arith}
use mathlib.Core.Path.{◌≡◌, refl, sym, ap, subst, ◌∙◌}
use mathlib.Core.Bool.{Bool, true, false}
use mathlib.Core.List.{List}
use lib.Dec.{leb}
use lib.ListN.{length, drop, length-drop}
use lib.Seq.{drop-drop}
use borrow.Author.Tests.{leb-true, leb-false}
use Rattle.wire.specs.Tests.{pick, if_le}
use Rattle.wire.specs.Numbers.{word}
use Rattle.wire.proofs.Tests.{eq_yea, eq_nay, le_yea, le_nay}
use Rattle.wire.proofs.Numbers.{word_drop}
use Rattle.boxes.specs.declared.walk.Form.{Form}
use Rattle.boxes.specs.declared.walk.Form.TheVariants.{Plain, Wide, Open}
use Rattle.boxes.specs.declared.walk.Walk.{Walk}
use Rattle.boxes.specs.declared.walk.Says.{Says}
use Rattle.boxes.specs.declared.walk.BoxAt.{BoxAt}
use Rattle.boxes.specs.declared.walk.Step.{Step}
use Rattle.boxes.specs.declared.walk.Step.TheVariants.{Found, End, Broken}
use Rattle.boxes.specs.Box.{head_of}
use Rattle.boxes.specs.Boxes.{form_of, size_by, head_front, size_of, whole}
use Rattle.boxes.specs.Walk.{said_by, found_at, step_at, Ran, Over, Stepped}
use Rattle.boxes.proofs.Whole.{head_least, whole_true, whole_of, not_whole, short_not}
use Rattle.boxes.proofs.Reading.{boxes_next, boxes_stop, after_next, after_stop}

module _ (xs : List ℕ) (at : ℕ) where
  abbrev ys : List ℕ
  ys = drop at xs

  -- ---- what a step says of the boxes

  over : whole ys ≡ false → Over xs at
  over e = record { list = boxes_stop ys e; rest = after_stop ys e }

  found : whole ys ≡ true → Ran xs at (found_at ys at) (record { at = at + size_of ys })
  found e =
      let w = whole_true ys e in
      let l = length-drop at xs in
      let n : at + size_of ys - (at + head_front ys) ≡ size_of ys - head_front ys = omega arith in
      record {
        start = refl;
        head = refl;
        eight = head_least (form_of ys);
        least = w.0;
        inside = omega (arith, head_least (form_of ys));
        next = refl;
        list = boxes_next ys e ∙ rw (n, drop-drop (head_front ys) at xs, drop-drop (size_of ys) at xs);
        rest = after_next ys e ∙ rw (drop-drop (size_of ys) at xs);
      }

  pub stepped : Stepped xs at (step_at xs at)
  unfolding step_at if_le
  stepped = go _ _ refl refl
    where
      go : (s t : Bool) → leb (length xs) at ≡ s → whole ys ≡ t → Stepped xs at (pick s End (pick t (Found (found_at ys at) (record { at = at + size_of ys })) (Broken at)))
      go true t e f = let h : length xs ≤ at = leb-true _ _ e in (over (short_not _ (rw length-drop (omega arith))), h)
      go false true e f = found f
      go false false e f = (over f, refl, leb-false _ _ e)

  -- ---- the same of a step's answer s

  stepped_as : (s r : Step) → s ≡ step_at xs at → s ≡ r → Stepped xs at r
  stepped_as s r e f = subst (Stepped xs at) (sym e ∙ f) stepped

  pub ran : (s : Step) (b : BoxAt) (w : Walk) → s ≡ step_at xs at → s ≡ Found b w → Ran xs at b w
  ran s b w e f = stepped_as s (Found b w) e f

  pub ended : (s : Step) → s ≡ step_at xs at → s ≡ End → Over xs at × (length xs ≤ at)
  ended s e f = stepped_as s End e f

  pub broke : (s : Step) (p : ℕ) → s ≡ step_at xs at → s ≡ Broken p → Over xs at × (p ≡ at) × (at < length xs)
  broke s p e f = stepped_as s (Broken p) e f

-- ---- the ways through a step, as the code takes them

module _ (xs : List ℕ) (at : ℕ) where
  pub step_end : length xs ≤ at → End ≡ step_at xs at
  unfolding step_at
  step_end h = le_yea _ _ _ _ _ h refl

  pub step_broken : at < length xs → whole (drop at xs) ≡ false → Broken at ≡ step_at xs at
  unfolding step_at
  step_broken h e = le_nay _ _ _ _ _ h (rw e)

  pub step_rest : at < length xs → length xs < at + 8 → Broken at ≡ step_at xs at
  step_rest h k = step_broken h (short_not _ (rw length-drop (omega arith)))

  -- the box whose header is there, which is none where its size is too small or too large
  abbrev here : List ℕ
  here = drop at xs

  pub step_not : at < length xs → (head_front here ≤ size_of here → at + size_of here ≤ length xs → ⊥) → Broken at ≡ step_at xs at
  step_not h k = step_broken h (not_whole here (λ l m. k l (omega (arith, length-drop at xs))))

  -- a box by what its header says
  abbrev pub box_by : Says → Step
  box_by s = Found (record { at = at; form = s.form; head = s.head; span = s.span; code = word 4 xs (at + 4) }) (record { at = at + s.span })

  pub step_found : head_front here ≤ size_of here → at + size_of here ≤ length xs → box_by (said_by here) ≡ step_at xs at
  unfolding step_at
  step_found l m =
      let w : whole here ≡ true = whole_of here l (omega (arith, length-drop at xs)) in
      le_nay _ _ _ _ _ (omega (arith, head_least (form_of here))) (rw (w, word_drop 4 at xs 4))

  module _ {s : Says} (e : s ≡ said_by here) where
    span_is : s.span ≡ size_of here
    span_is = ap (λ (r : Says). r.span) e

    head_is : s.head ≡ head_front here
    head_is = ap (λ (r : Says). r.head) e

    pub step_small : s.span < s.head → at < length xs → Broken at ≡ step_at xs at
    step_small k h = step_not h (λ l m. omega (arith, span_is, head_is))

    pub step_large : length xs < at + s.span → at < length xs → Broken at ≡ step_at xs at
    step_large k h = step_not h (λ l m. omega (arith, span_is))

    pub step_box : {c : ℕ} → c ≡ word 4 xs (at + 4) → s.head ≤ s.span → at + s.span ≤ length xs
        → Found (record { at = at; form = s.form; head = s.head; span = s.span; code = c }) (record { at = at + s.span }) ≡ step_at xs at
    step_box q l m = rw q (ap box_by e ∙ step_found (omega (arith, span_is, head_is)) (omega (arith, span_is)))

  -- ---- what it says

  pub field_at : word 4 here 0 ≡ word 4 xs at
  field_at = word_drop 4 at xs 0 ∙ ap (word 4 xs) (omega arith)

  said_by_lem : (f : Form) {n : ℕ} → form_of here ≡ f → size_by f here ≡ n → record { form = f; head = head_of f; span = n } ≡ said_by here
  said_by_lem f e s = rw (e, s)

  plain_at : 2 ≤ word 4 xs at → form_of here ≡ Plain
  unfolding form_of
  plain_at h = sym (eq_nay _ _ _ _ _ (omega (arith, field_at)) (eq_nay _ _ _ _ _ (omega (arith, field_at)) refl))

  pub said_plain : {n : ℕ} → n ≡ word 4 xs at → 2 ≤ n → record { form = Plain; head = 8; span = n } ≡ said_by here
  said_plain e h = said_by_lem Plain (plain_at (omega arith)) (field_at ∙ sym e)

  pub said_wide : {f n : ℕ} → f ≡ word 4 xs at → f ≡ 1 → n ≡ word 8 xs (at + 8) → record { form = Wide; head = 16; span = n } ≡ said_by here
  unfolding form_of
  said_wide g h e = said_by_lem Wide (sym (eq_nay _ _ _ _ _ (omega (arith, field_at)) (eq_yea _ _ _ _ _ (field_at ∙ sym g ∙ h) refl))) (word_drop 8 at xs 8 ∙ sym e)

  pub said_open : {f : ℕ} → f ≡ word 4 xs at → f ≡ 0 → record { form = Open; head = 8; span = length xs - at } ≡ said_by here
  unfolding form_of
  said_open g h = said_by_lem Open (sym (eq_yea _ _ _ _ _ (field_at ∙ sym g ∙ h) refl)) (length-drop at xs)
