-- Laws of rule 3 in one container. Assumes nothing.
use Prim.Native.Nat.{ℕ, ◌+◌, ◌≤◌, ◌<◌}
use native.Mathlib.Omega.{arith}
use native.Mathlib.Numerals.{add-one}
use mathlib.Core.Path.{◌≡◌, refl, sym, ◌∙◌}
use mathlib.Core.Bool.{true, false}
use mathlib.Core.List.{List}
use lib.ListN.{length, get_or, drop}
use lib.Seq.{drop-cons, drop-length}
use Rattle.std.specs.Option.{is_some}
use Rattle.std.specs.Prelude.{Option, Some, None}
use Rattle.wire.specs.Clauses.{is_lt}
use Rattle.wire.proofs.Clauses.{is_eq_lem, not_eq, is_lt_lem, not_lt}
use Rattle.boxes.specs.declared.walk.Walk.{Walk}
use Rattle.boxes.specs.declared.walk.BoxAt.{BoxAt}
use Rattle.boxes.specs.Box.{Box}
use Rattle.boxes.specs.Boxes.{boxes}
use Rattle.boxes.specs.Walk.{Ran, Over}
use Rattle.boxes.specs.Seek.{count, SeenAs}
use Rattle.boxes.proofs.Cutting.{cut_some}
use Rattle.rule_shape.specs.Three.{exactly, first}

-- there are n boxes of each code before the i-th: all hold where the rest do
pub record Asked (n : ℕ) (cs : List ℕ) (l : List Box) (i : ℕ) : Type 0 where
  pub is : exactly n cs l ≡ exactly n (drop i cs) l
  pub inside : i ≤ length cs

pub asked_none : (n : ℕ) (cs : List ℕ) (l : List Box) → Asked n cs l 0
asked_none n cs l = record { is = refl; inside = omega arith }

module _ {n : ℕ} {cs : List ℕ} {l : List Box} {i : ℕ} (a : Asked n cs l i) where
  pub asked_more : i < length cs → count (get_or cs i 0) l ≡ n → Asked n cs l (i + 1)
  unfolding exactly
  asked_more h e = record { is = a.is ∙ rw (add-one, drop-cons cs i 0 h, is_eq_lem (count (get_or cs i 0) l) n e); inside = omega arith }

  pub asked_bad : i < length cs → (count (get_or cs i 0) l ≡ n → ⊥) → false ≡ exactly n cs l
  unfolding exactly
  asked_bad h e = sym (a.is ∙ rw (drop-cons cs i 0 h, not_eq (count (get_or cs i 0) l) n e))

  pub asked_all : length cs ≤ i → true ≡ exactly n cs l
  unfolding exactly
  asked_all h =
      let e : i ≡ length cs = omega (arith, a.inside) in
      sym (a.is ∙ rw (e, drop-length cs))

-- ---- the first box, as a step of the walk tells it

pub first_found : (xs : List ℕ) {b : BoxAt} {w : Walk} → Ran xs 0 b w → b.code ≡ first (boxes xs)
unfolding first
first_found xs s = rw s.list

pub first_none : (xs : List ℕ) → Over xs 0 → 0 ≡ first (boxes xs)
unfolding first
first_none xs o = rw o.list

-- more than n boxes of a code are there where that of number n is

pub more_is : (xs : List ℕ) (c n : ℕ) (o : Option BoxAt) → SeenAs xs c n o → is_some o ≡ is_lt n (count c (boxes xs))
more_is xs c n (Some b) s = sym (is_lt_lem n (count c (boxes xs)) (cut_some s))
more_is xs c n None s = sym (not_lt n (count c (boxes xs)) s)
