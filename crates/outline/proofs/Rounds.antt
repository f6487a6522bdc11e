-- Laws of a list and a box, each by the other, as they are printed. Assumes nothing.
use Prim.Native.Nat.{ℕ, suc, ◌+◌, ◌-◌, ◌≤◌, ◌<◌}
use native.Mathlib.Omega.{arith}
use mathlib.Core.Path.{◌≡◌, refl, sym, ap, ◌∙◌}
use mathlib.Core.Bool.{true, false}
use mathlib.Core.List.{List, [], ◌++◌, append-nil}
use lib.ListN.{length, drop, length-drop}
use Rattle.wire.specs.Tests.{if_eq}
use Rattle.wire.specs.Writing.{Rest}
use Rattle.wire.proofs.Resting.{rest_all}
use Rattle.wire.proofs.Tests.{eq_yea, eq_nay, eq_any}
use Rattle.wire.proofs.Clauses.{is_eq_lem, not_eq}
use Rattle.boxes.specs.declared.walk.Walk.{Walk}
use Rattle.boxes.specs.declared.walk.BoxAt.{BoxAt}
use Rattle.boxes.specs.Box.{Box, head, size}
use Rattle.boxes.specs.Boxes.{boxes, after}
use Rattle.boxes.specs.Walk.{payload, box_at, Ran, Over}
use Rattle.boxes.specs.Way.{BoxInside}
use Rattle.boxes.proofs.Seeking.{payload_length, ran_next}
use Rattle.rule_shape.specs.Two.{may_have}
use Rattle.outline.specs.Lines.{Line, box_text, broken_text, printed}
use Rattle.outline.specs.Lines.Line.{broken}
use Rattle.outline.specs.Outline.{Opening, row_lines, list_lines, box_lines}
use Rattle.outline.proofs.Printing.{printed_append, printed_one}

-- a box that lies in a part is as long as it says
pub span_size : {xs : List ℕ} {b : BoxAt} → BoxInside xs b → b.span ≡ size (box_at xs b)
span_size {xs} {b} i = omega (arith, payload_length xs b i.least i.inside, i.head, i.least)

-- and so is what it holds
pub body_length : {xs ys : List ℕ} {b : BoxAt} → BoxInside xs b → ys ≡ payload xs b → length ys ≡ b.span - b.head
body_length {xs} {b = b} i e = ap length e ∙ payload_length xs b i.least i.inside

module _ (o : Opening) where
  -- ---- a box, of which s is the size

  module _ (n k d p : ℕ) (x : Box) {m s : ℕ} (e : m ≡ suc n) (q : s ≡ size x) where
    -- its own line, the lines of what it holds, and all of them
    abbrev own : List ℕ
    own = box_text x.code p s d

    abbrev held : List Line
    held = if_eq (o k x.code) 0 [] (list_lines o n (o k x.code) (d + 1) (p + head x) x.body)

    abbrev all : List ℕ
    all = printed (box_lines o m k d p x)

    box_is : (l : List Line) → l ≡ held → own ++ printed l ≡ all
    unfolding list_lines printed
    box_is l f = rw (e, q, f)

    alone : [] ≡ held → own ≡ all
    unfolding printed
    alone f = sym (append-nil own) ∙ box_is [] f

    -- no round is left for what it holds, or its code opens nothing
    pub box_last : n ≡ 0 → own ≡ all
    unfolding list_lines
    box_last z = alone (rw z (eq_any (λ (l : List Line). [] ≡ l) (o k x.code) 0 [] [] refl refl))

    pub box_shut : {j : ℕ} → j ≡ o k x.code → j ≡ 0 → own ≡ all
    box_shut f z = alone (eq_yea _ _ _ _ _ (sym f ∙ z) refl)

    -- or it holds the list ys, behind a header of h bytes
    pub box_holds : {j h : ℕ} {ys : List ℕ} → j ≡ o k x.code → (j ≡ 0 → ⊥) → h ≡ head x → ys ≡ x.body
        → own ++ printed (list_lines o n j (d + 1) (p + h) ys) ≡ all
    box_holds f z g y = rw (f, g, y) (box_is _ (eq_nay _ _ _ _ _ (λ u. z (f ∙ u)) refl))

  -- ---- a list, from a place in it on

  module _ (n k d p : ℕ) (xs : List ℕ) where
    abbrev line : ℕ → Box → List Line
    line q x = box_lines o n k d q x

    abbrev pub from : ℕ → List Line
    from at = row_lines (λ q x. line q x) k (p + at) (boxes (drop at xs)) (after (drop at xs))

    pub list_all : {m : ℕ} (out : List ℕ) (at : ℕ) → m ≡ suc n → Rest (printed (list_lines o m k d p xs)) (printed (from 0)) out at out at
    unfolding list_lines
    list_all out at e = let z : p + 0 ≡ p = omega arith in rw (e, z) (rest_all _ out at)

    pub list_more : {at : ℕ} {b : BoxAt} {w : Walk} → Ran xs at b w → may_have k b.form ≡ true
        → printed (from at) ≡ printed (box_lines o n k d (p + b.at) (box_at xs b)) ++ printed (from w.at)
    unfolding row_lines
    list_more {at} {b} {w} s t =
        rw (s.list, s.rest, t, ran_next s p)
        (printed_append (line (p + at) (box_at xs b)) (from w.at)
        ∙ ap (λ (i : ℕ). printed (line (p + i) (box_at xs b)) ++ printed (from w.at)) (sym s.start))

    -- a box that may not stand there, what is no box, and the end
    pub list_open : {at : ℕ} {b : BoxAt} {w : Walk} → Ran xs at b w → may_have k b.form ≡ false → broken_text (p + b.at) ≡ printed (from at)
    unfolding row_lines
    list_open s t = rw (s.list, t) (ap (λ (i : ℕ). broken_text (p + i)) s.start ∙ printed_one (broken (p + _)))

    pub list_broken : {at q : ℕ} → Over xs at → q ≡ at → at < length xs → broken_text (p + q) ≡ printed (from at)
    unfolding row_lines
    list_broken {at} v e h =
        rw (e, v.list, v.rest, not_eq (length (drop at xs)) 0 (λ z. omega (arith, length-drop at xs))) (printed_one (broken (p + at)))

    pub list_end : {at : ℕ} → Over xs at → length xs ≤ at → printed (from at) ≡ []
    unfolding row_lines printed
    list_end {at} v h = rw (v.list, v.rest, is_eq_lem (length (drop at xs)) 0 (length-drop at xs ∙ omega arith))
