-- What rule 3 says of the boxes of one container. Assumes nothing.
use Prim.Native.Nat.{ℕ, ◌≤◌}
use native.Mathlib.Omega.{arith}
use mathlib.Core.Path.{◌≡◌}
use mathlib.Core.Bool.{Bool, true, false}
use mathlib.Core.List.{List, [], ◌∷◌}
use lib.Dec.{eqb, ltb}
use borrow.Author.Tests.{ne_eqb, ltb-true}
use Rattle.wire.specs.Tests.{pick, if_eq}
use Rattle.wire.specs.Clauses.{is_eq}
use Rattle.codes.specs.Codes.{FTYP, MOOV, TRAK}
use Rattle.wire.proofs.Tests.{both, eq_or}
use Rattle.wire.proofs.Clauses.{eq_is, le_is, clause}
use Rattle.boxes.specs.Box.{Box}
use Rattle.boxes.specs.Containers.{FILE}
use Rattle.boxes.specs.Seek.{ANY, count}
use Rattle.rule_shape.specs.Three.{needed, exactly, first, besides, shape}

-- c is one of some codes
abbrev has : ℕ → List ℕ → Bool
has c [] = false
has c (a ∷ cs) = pick (eqb a c) true (has c cs)

exactly_is : (n c : ℕ) (cs : List ℕ) (l : List Box) → exactly n cs l ≡ true → has c cs ≡ true → count c l ≡ n
unfolding exactly
exactly_is n c [] l e h = let z : ◌≡◌ {A = ℕ} 0 1 = cc in absurd (omega arith)
exactly_is n c (a ∷ cs) l e h =
    let u = both (is_eq (count a l) n) _ e in
    eq_or a c (λ q. rw q at (eq_is _ _ u.0)) (λ q. exactly_is n c cs l u.1 (rw (ne_eqb a c q) at h))

-- a container of kind k needs a box of code c, and 0, which means any box, is none
abbrev pub needs : ℕ → ℕ → Bool
needs k c = pick (ltb 0 c) (has c (needed k)) false

pub needs_code : (k c : ℕ) → needs k c ≡ true → c ≡ ANY → ⊥
needs_code k c n z = omega (arith, ltb-true 0 c (both _ _ n).0)

module _ (l : List Box) where
  pub shape_one : (k c : ℕ) → shape k l ≡ true → needs k c ≡ true → count c l ≡ 1
  unfolding shape
  shape_one k c e n = exactly_is 1 c (needed k) l (clause 0 _ e) (both (ltb 0 c) _ n).1

  pub shape_first : shape FILE l ≡ true → first l ≡ FTYP
  unfolding shape besides if_eq
  shape_first e = eq_is _ _ (clause 1 _ e)

  pub shape_tracks : shape MOOV l ≡ true → (1 ≤ count TRAK l) × (count TRAK l ≤ 4)
  unfolding shape besides if_eq
  shape_tracks e = (le_is _ _ (clause 0 _ (clause 1 _ e)), le_is _ _ (clause 1 _ (clause 1 _ e)))
