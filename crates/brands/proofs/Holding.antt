-- Laws of the brands' conditions. Assumes nothing.
use Prim.Native.Nat.{ℕ, ◌≤◌}
use lib.Dec.{eqb}
use native.Mathlib.Omega.{arith}
use mathlib.Core.Path.{◌≡◌, refl, ◌∙◌}
use mathlib.Core.Bool.{Bool}
use mathlib.Core.List.{List, [], ◌∷◌, ◌++◌}
use Rattle.wire.specs.Clauses.{is_eq}
use Rattle.codes.specs.Codes.{AVC1}
use Rattle.boxes.specs.Box.{Box}
use Rattle.boxes.specs.Boxes.{boxes}
use Rattle.boxes.specs.Seek.{ANY, count}
use Rattle.boxes.proofs.Numbered.{count_any}
use Rattle.movie.specs.Named.{list_in}
use Rattle.brands.specs.Brands.{one_entry, no_avc1, second}

-- ---- a track's entries

pub one_is : (b : List ℕ) {n : ℕ} {r : Bool} → n ≡ count ANY (boxes (list_in b)) → r ≡ eqb n 1 → r ≡ one_entry b
unfolding one_entry is_eq
one_is b g e = e ∙ rw g

pub plain_is : (b : List ℕ) {list : List ℕ} {n : ℕ} {r : Bool} → list ≡ list_in b → n ≡ count AVC1 (boxes list) → r ≡ eqb n 0 → r ≡ no_avc1 b
unfolding no_avc1 is_eq
plain_is b f g e = e ∙ rw (g, f)

-- ---- the second box

pub second_is : (l p : List Box) (x : Box) (q : List Box) → l ≡ p ++ x ∷ q → count ANY p ≡ 1 → x.code ≡ second l
unfolding second count
second_is l [] x q e h = absurd (omega arith)
second_is l (y ∷ []) x q e h = rw e
second_is l (y ∷ z ∷ p) x q e h = absurd (omega (arith, count_any (y ∷ z ∷ p)))

pub second_none : (l : List Box) → count ANY l ≤ 1 → 0 ≡ second l
unfolding second
second_none [] h = refl
second_none (x ∷ []) h = refl
second_none (x ∷ y ∷ l) h = absurd (omega (arith, count_any (x ∷ y ∷ l)))
