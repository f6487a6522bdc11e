-- What holds of every box of a list. Assumes nothing.
use Prim.Native.Nat.{ℕ, ◌≤◌, ◌<◌}
use native.Mathlib.Omega.{arith}
use mathlib.Core.Path.{◌≡◌}
use mathlib.Core.List.{List, [], ◌∷◌, ◌++◌}
use Rattle.boxes.specs.Box.{Box}
use Rattle.boxes.specs.Seek.{ANY, count, nth, find}
use Rattle.boxes.specs.Kin.{All2}
use Rattle.boxes.specs.Kin.All2.{nil, cons}
use Rattle.boxes.proofs.Reading.{All}
use Rattle.boxes.proofs.Reading.All.{none, some}
use Rattle.boxes.proofs.Meaning.{meant_yes, meant_is, meant_or, nth_hit, nth_next, nth_miss}
use Rattle.boxes.proofs.Numbered.{by_number}

-- ---- from one claim to another

pub all_map : {P Q : Box → Type 0} → ((x : Box) → P x → Q x) → {l : List Box} → All P l → All Q l
all_map h none = none
all_map h (some {x} p a) = some (h x p) (all_map h a)

pub all_with : {P Q R : Box → Type 0} → ((x : Box) → P x → Q x → R x) → {l : List Box} → All P l → All Q l → All R l
all_with h none none = none
all_with h (some {x} p a) (some q b) = some (h x p q) (all_with h a b)

pub all_four : {P Q R S T : Box → Type 0} → ((x : Box) → P x → Q x → R x → S x → T x) → {l : List Box} → All P l → All Q l → All R l → All S l → All T l
all_four h none none none none = none
all_four h (some {x} p a) (some q b) (some r c) (some s d) = some (h x p q r s) (all_four h a b c d)

-- from one list to a related one
pub all_along : {R : Box → Box → Type 0} {P Q : Box → Type 0} → ((x y : Box) → R x y → P x → Q y) → {l m : List Box} → All2 R l m → All P l → All Q m
all_along h nil none = none
all_along h (cons {x} {y} r a) (some p b) = some (h x y r p) (all_along h a b)

-- ---- parts of a list

module _ {P : Box → Type 0} where
  pub all_head : {x : Box} {l : List Box} → All P (x ∷ l) → P x
  all_head (some h a) = h

  pub all_tail : {x : Box} {l : List Box} → All P (x ∷ l) → All P l
  all_tail (some h a) = a

  pub all_left : (p q : List Box) → All P (p ++ q) → All P p
  all_left [] q a = none
  all_left (x ∷ p) q (some h a) = some h (all_left p q a)

  pub all_here : (p : List Box) (x : Box) (q : List Box) → All P (p ++ x ∷ q) → P x
  all_here [] x q (some h a) = h
  all_here (y ∷ p) x q (some h a) = all_here p x q a

  pub all_append : {l m : List Box} → All P l → All P m → All P (l ++ m)
  all_append none b = b
  all_append (some h a) b = some h (all_append a b)

-- ---- the boxes of a code

module _ (c : ℕ) (z : c ≡ ANY → ⊥) (P : List ℕ → Type 0) where
  -- what holds of every one holds of the n-th
  pub each_nth : (n : ℕ) (l : List Box) → All (λ x. x.code ≡ c → P x.body) l → n < count c l → P (nth c n l)
  unfolding count
  each_nth =
      by_number c (λ n l. All (λ x. x.code ≡ c → P x.body) l → n < count c l → P (nth c n l))
      (λ n a h. absurd (omega arith))
      (λ n x l e ih a h. rw (nth_miss c x l e n) (ih (all_tail a) (omega arith)))
      (λ x l e a h. rw (nth_hit c x l e) (all_head a (meant_is c x.code z e)))
      (λ n x l e ih a h. rw (nth_next c x l e n) (ih (all_tail a) (omega arith)))

  -- and what holds of the first holds of every one, where there is one at most
  pub found_each : (l : List Box) → (0 < count c l → P (find c l)) → count c l ≤ 1 → All (λ x. x.code ≡ c → P x.body) l
  unfolding count
  found_each [] p h = none
  found_each (x ∷ l) p h =
      meant_or c x.code
      (λ e. some (λ f. rw (nth_hit c x l e) at (p (omega arith))) (found_each l (λ m. absurd (omega arith)) (omega arith)))
      (λ e. some (λ f. absurd (omega (arith, meant_yes c x.code z f))) (found_each l (λ m. rw (nth_miss c x l e 0) at (p (omega arith))) (omega arith)))
