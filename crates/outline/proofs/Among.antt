-- What rule 2 walks is in the outline, line by line. Assumes nothing.
use Prim.Native.Nat.{ℕ, zero, suc, ◌+◌, ◌*◌, ◌≤◌}
use native.Mathlib.Omega.{arith}
use mathlib.Core.Path.{◌≡◌, refl, sym, subst, ◌∙◌}
use mathlib.Core.Bool.{Bool, true, false}
use mathlib.Core.List.{List, [], ◌∷◌, ◌++◌}
use lib.Dec.{eqb}
use Rattle.wire.specs.Tests.{pick, if_eq}
use Rattle.wire.proofs.Tests.{eq_yea, eq_nay, eq_or}
use Rattle.boxes.specs.Box.{Box, head, size}
use Rattle.boxes.specs.Boxes.{boxes, after}
use Rattle.boxes.specs.Containers.{FILE, DEPTH, parent, kind_in}
use Rattle.rule_shape.specs.Two.{shut_in}
use Rattle.outline.specs.Lines.{Line}
use Rattle.outline.specs.Outline.{opens_as, wherever, row_lines, list_lines, box_lines, outline, rounds_at}
use Rattle.outline.specs.Said.{walked, Among}
use Rattle.outline.specs.Said.Among.{end, here, past}

among_none : (l : List Line) → Among [] l
among_none [] = end
among_none (x ∷ l) = past (among_none l)

among_append : {l m l' m' : List Line} → Among l m → Among l' m' → Among (l ++ l') (m ++ m')
among_append end b = b
among_append (here a) b = here (among_append a b)
among_append (past a) b = past (among_append a b)

among_same : (l : List Line) → Among l l
among_same [] = end
among_same (x ∷ l) = here (among_same l)

among_pick : (t : Bool) (l m l' m' : List Line) → Among l m → Among l' m' → Among (pick t l l') (pick t m m')
among_pick true l m l' m' a b = a
among_pick false l m l' m' a b = b

among_if : (c : ℕ) (l m : List Line) → Among l m → Among (if_eq c 0 [] l) (if_eq c 0 [] m)
unfolding if_eq
among_if c l m a = among_pick (eqb c 0) [] [] l m end a

among_row : (f g : ℕ → Box → List Line) → ((q : ℕ) (x : Box) → Among (f q x) (g q x)) → (k p : ℕ) (l : List Box) (rest : List ℕ)
    → Among (row_lines f k p l rest) (row_lines g k p l rest)
unfolding row_lines
among_row f g h k p [] rest = among_same _
among_row f g h k p (x ∷ l) rest = among_pick (shut_in k x) _ _ _ _ (among_append (h p x) (among_row f g h k (p + size x) l rest)) (among_same _)

among_shut : (c : ℕ) (l m : List Line) → c ≡ 0 → Among (if_eq c 0 [] l) m
among_shut c l m e = subst (λ (t : List Line). Among t m) (eq_yea c 0 [] l [] e refl) (among_none m)

-- a box on a path of the format opens wherever it stands, as the same kind
kind_same : (k c : ℕ) → (k ≡ 0 → ⊥) → (kind_in k c ≡ 0 → ⊥) → kind_in k c ≡ opens_as c
unfolding kind_in opens_as
kind_same k c z h =
    eq_or (parent c) k (λ e. sym (eq_yea _ _ _ _ _ e refl) ∙ eq_nay _ _ _ _ _ (λ y. z (sym e ∙ y)) refl) (λ e. absurd (h (sym (eq_nay _ _ _ _ _ e refl))))

mutual
  unfolding list_lines

  among_list : (n m : ℕ) → n ≤ m → (k : ℕ) → (k ≡ 0 → ⊥) → (d p : ℕ) (xs : List ℕ) → Among (list_lines kind_in n k d p xs) (list_lines wherever m k d p xs)
  among_list zero m h k z d p xs = among_none _
  among_list (suc n) zero h k z d p xs = absurd (omega arith)
  among_list (suc n) (suc m) h k z d p xs = among_row _ _ (λ q x. among_box n m (omega arith) k z d q x) k p (boxes xs) (after xs)

  among_box : (n m : ℕ) → n ≤ m → (k : ℕ) → (k ≡ 0 → ⊥) → (d p : ℕ) (x : Box) → Among (box_lines kind_in n k d p x) (box_lines wherever m k d p x)
  among_box zero m h k z d p x = among_none _
  among_box (suc n) zero h k z d p x = absurd (omega arith)
  among_box (suc n) (suc m) h k z d p x =
      let c = kind_in k x.code in
      eq_or c 0 (λ y. here (among_shut c _ _ y))
      (λ y. here (rw (← kind_same k x.code z y) (among_if c _ _ (among_list n m (omega arith) c y (d + 1) (p + head x) x.body))))

pub walked_among : (xs : List ℕ) → Among (walked xs) (outline xs)
walked_among xs = among_list (2 * DEPTH) (rounds_at 1) (omega arith) FILE (λ e. omega arith) 1 0 xs
