-- A file that rule 2 accepts has no `broken` line where rule 2 walks. Assumes nothing.
use Prim.Native.Nat.{ℕ, zero, suc, ◌+◌, ◌*◌, ◌≤◌}
use native.Mathlib.Omega.{arith}
use mathlib.Core.Path.{◌≡◌, refl, sym, ap, ◌∙◌}
use mathlib.Core.Bool.{true}
use mathlib.Core.List.{List, [], ◌∷◌, ◌++◌}
use Rattle.wire.proofs.Tests.{eq_yea, eq_nay, eq_or}
use Rattle.boxes.specs.Box.{Box, head, size}
use Rattle.boxes.specs.Boxes.{boxes, after, nothing}
use Rattle.boxes.specs.Containers.{FILE, DEPTH, kind_in}
use Rattle.boxes.proofs.Reading.{All}
use Rattle.boxes.proofs.Reading.All.{none, some}
use Rattle.boxes.proofs.Every.{all_with}
use Rattle.rule.specs.Rule.{all_in}
use Rattle.rule.proofs.Opened.{list_each, opened}
use Rattle.rule_shape.specs.Two.{shut_in, two_rule}
use Rattle.outline.specs.Lines.{Line}
use Rattle.outline.specs.Lines.Line.{box, broken}
use Rattle.outline.specs.Outline.{row_lines, list_lines, box_lines}
use Rattle.outline.specs.Said.{walked, unbroken}

unbroken_append : (l m : List Line) → unbroken l ≡ true → unbroken m ≡ true → unbroken (l ++ m) ≡ true
unfolding unbroken
unbroken_append [] m a b = b
unbroken_append (box c p s d ∷ l) m a b = unbroken_append l m a b
unbroken_append (broken p ∷ l) m a b = a

-- a list is whole where each box may stand there, and holds no broken one, and nothing is left
row_unbroken : (f : ℕ → Box → List Line) (k p : ℕ) {l : List Box} (rest : List ℕ) → nothing rest ≡ true
    → All (λ x. (shut_in k x ≡ true) × ((q : ℕ) → unbroken (f q x) ≡ true)) l → unbroken (row_lines f k p l rest) ≡ true
unfolding row_lines unbroken
row_unbroken f k p rest e none = rw e
row_unbroken f k p rest e (some {x} h a) = rw h.0 (unbroken_append (f p x) _ (h.1 p) (row_unbroken f k (p + size x) rest e a))

mutual
  unfolding list_lines unbroken

  list_unbroken : (n d : ℕ) → n ≤ 2 * d → (k e p : ℕ) (xs : List ℕ) → all_in two_rule d k xs ≡ true → unbroken (list_lines kind_in n k e p xs) ≡ true
  list_unbroken zero d h k e p xs t = refl
  list_unbroken (suc n) zero h k e p xs t = absurd (omega arith)
  list_unbroken (suc n) (suc d) h k e p xs t =
      let o = opened two_rule d k xs t in
      row_unbroken _ k p (after xs) o.end
      (all_with (λ x a b. (a, λ q. box_unbroken n d (omega arith) k e q x b)) (list_each (shut_in k) true (boxes xs) o.node).0 o.inside)

  box_unbroken : (n d : ℕ) → n ≤ 2 * d + 1 → (k e p : ℕ) (x : Box) → ((kind_in k x.code ≡ 0 → ⊥) → all_in two_rule d (kind_in k x.code) x.body ≡ true)
      → unbroken (box_lines kind_in n k e p x) ≡ true
  box_unbroken zero d h k e p x t = refl
  box_unbroken (suc n) d h k e p x t =
      let c = kind_in k x.code in
      eq_or c 0 (λ z. ap unbroken (sym (eq_yea c 0 _ _ _ z refl)))
      (λ z. ap unbroken (sym (eq_nay c 0 _ _ _ z refl)) ∙ list_unbroken n d (omega arith) c (e + 1) (p + head x) x.body (t z))

pub two_unbroken : (xs : List ℕ) → all_in two_rule DEPTH FILE xs ≡ true → unbroken (walked xs) ≡ true
two_unbroken xs t = list_unbroken (2 * DEPTH) DEPTH (omega arith) FILE 1 0 xs t
