-- The boxes of the top level are those of `boxes`, one after the other. Assumes nothing.
use Prim.Native.Nat.{ℕ, zero, suc, ◌+◌, ◌<◌}
use native.Mathlib.Omega.{arith}
use mathlib.Core.Path.{◌≡◌, refl, sym, ap, ◌∙◌}
use mathlib.Core.Bool.{Bool, true, false}
use mathlib.Core.List.{List, [], ◌∷◌, ◌++◌}
use Rattle.wire.specs.Tests.{pick, if_eq}
use Rattle.wire.proofs.Tests.{eq_yea, eq_nay, eq_any, through}
use Rattle.boxes.specs.Box.{Box, size}
use Rattle.boxes.specs.Boxes.{boxes, after, nothing}
use Rattle.boxes.specs.Containers.{FILE}
use Rattle.rule_shape.specs.Two.{may_have, shut_in}
use Rattle.outline.specs.Lines.{Line}
use Rattle.outline.specs.Lines.Line.{box, broken}
use Rattle.outline.specs.Outline.{Opening, row_lines, list_lines, box_lines, outline, wherever}
use Rattle.outline.specs.Said.{at_depth, top_lines}

at_append : (d : ℕ) (l m : List Line) → at_depth d (l ++ m) ≡ at_depth d l ++ at_depth d m
unfolding at_depth
at_append d [] m = refl
at_append d (box c p s e ∷ l) m = rw (at_append d l m) (sym (through (λ (t : List Line). t ++ at_depth d m) e d (box c p s e ∷ at_depth d l) (at_depth d l)))
at_append d (broken p ∷ l) m = at_append d l m

-- ---- further down no line has that depth

module _ (d : ℕ) where
  either_way : (t : Bool) (l m : List Line) → at_depth d l ≡ [] → at_depth d m ≡ [] → at_depth d (pick t l m) ≡ []
  either_way true l m a b = a
  either_way false l m a b = b

  row_deeper : (f : ℕ → Box → List Line) → ((q : ℕ) (x : Box) → at_depth d (f q x) ≡ []) → (k p : ℕ) (l : List Box) (rest : List ℕ)
      → at_depth d (row_lines f k p l rest) ≡ []
  unfolding row_lines at_depth
  row_deeper f h k p [] rest = either_way (nothing rest) _ _ refl refl
  row_deeper f h k p (x ∷ l) rest = either_way (shut_in k x) _ _ (at_append d (f p x) _ ∙ rw (h p x, row_deeper f h k (p + size x) l rest)) refl

  module _ (o : Opening) where
    mutual
      unfolding list_lines at_depth

      list_deeper : (n e : ℕ) → d < e → (k p : ℕ) (xs : List ℕ) → at_depth d (list_lines o n k e p xs) ≡ []
      list_deeper zero e h k p xs = refl
      list_deeper (suc n) e h k p xs = row_deeper _ (λ q x. box_deeper n e h k q x) k p (boxes xs) (after xs)

      box_deeper : (n e : ℕ) → d < e → (k p : ℕ) (x : Box) → at_depth d (box_lines o n k e p x) ≡ []
      box_deeper zero e h k p x = refl
      box_deeper (suc n) e h k p x =
          sym (eq_nay _ _ _ _ _ (omega arith)
          (sym (eq_any (λ (l : List Line). at_depth d l ≡ []) (o k x.code) 0 _ _ refl (list_deeper n (e + 1) (omega arith) _ _ x.body))))

-- ---- the top

top_box : (o : Opening) (n p : ℕ) (x : Box) → at_depth 1 (box_lines o (suc n) FILE 1 p x) ≡ box x.code p (size x) 1 ∷ []
unfolding list_lines at_depth
top_box o n p x =
    sym (eq_yea _ _ _ _ _ refl (sym (ap (λ (l : List Line). box x.code p (size x) 1 ∷ l)
    (eq_any (λ (l : List Line). at_depth 1 l ≡ []) (o FILE x.code) 0 _ _ refl (list_deeper 1 o n 2 (omega arith) _ _ x.body)))))

top_row : (f : ℕ → Box → List Line) → ((q : ℕ) (x : Box) → at_depth 1 (f q x) ≡ box x.code q (size x) 1 ∷ []) → (p : ℕ) (l : List Box) (rest : List ℕ)
    → at_depth 1 (row_lines f FILE p l rest) ≡ top_lines p l
unfolding row_lines top_lines at_depth may_have if_eq
top_row f h p [] rest = either_way 1 (nothing rest) _ _ refl refl
top_row f h p (x ∷ l) rest = at_append 1 (f p x) _ ∙ rw (h p x, top_row f h (p + size x) l rest)

pub top_lines_lem : (xs : List ℕ) → at_depth 1 (outline xs) ≡ top_lines 0 (boxes xs)
unfolding list_lines
top_lines_lem xs = top_row _ (λ q x. top_box wherever 30 q x) 0 (boxes xs) (after xs)
