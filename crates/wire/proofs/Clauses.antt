-- A rule's clauses, each way, in the direction of a need. Assumes nothing.
use Prim.Native.Nat.{ℕ, zero, suc, ◌≤◌, ◌<◌}
use native.Mathlib.Omega.{arith}
use mathlib.Core.Path.{◌≡◌, refl, sym}
use mathlib.Core.Bool.{Bool, true, false}
use mathlib.Core.List.{List, [], ◌∷◌}
use lib.ListN.{get_or}
use borrow.Author.Tests.{ltb-true, leb-true, eqb-true, le-ltb, lt-ltb, le-leb, lt-leb, eq-eqb, ne_eqb}
use Rattle.std.specs.Int.{from_bool}
use Rattle.wire.specs.Clauses.{is_eq, is_lt, is_le, every, either, one_if}
use Rattle.wire.proofs.Tests.{both}

-- ---- a test, from its numbers and back

pub is_eq_lem : (m n : ℕ) → m ≡ n → is_eq m n ≡ true
unfolding is_eq
is_eq_lem m n = eq-eqb m n

pub not_eq : (m n : ℕ) → (m ≡ n → ⊥) → is_eq m n ≡ false
unfolding is_eq
not_eq m n = ne_eqb m n

pub eq_is : (m n : ℕ) → is_eq m n ≡ true → m ≡ n
unfolding is_eq
eq_is m n = eqb-true m n

pub is_lt_lem : (m n : ℕ) → m < n → is_lt m n ≡ true
unfolding is_lt
is_lt_lem m n = lt-ltb m n

pub not_lt : (m n : ℕ) → n ≤ m → is_lt m n ≡ false
unfolding is_lt
not_lt m n = le-ltb m n

pub lt_is : (m n : ℕ) → is_lt m n ≡ true → m < n
unfolding is_lt
lt_is m n = ltb-true m n

pub is_le_lem : (m n : ℕ) → m ≤ n → is_le m n ≡ true
unfolding is_le
is_le_lem m n = le-leb m n

pub not_le : (m n : ℕ) → n < m → is_le m n ≡ false
unfolding is_le
not_le m n = lt-leb m n

pub le_is : (m n : ℕ) → is_le m n ≡ true → m ≤ n
unfolding is_le
le_is m n = leb-true m n

-- ---- a list of clauses

-- clause i, from 0, fails
pub fails : (i : ℕ) (ts : List Bool) → get_or ts i true ≡ false → false ≡ every ts
unfolding every
fails i [] e = sym e
fails zero (t ∷ ts) e = rw e
fails (suc i) (true ∷ ts) e = fails i ts e
fails (suc i) (false ∷ ts) e = refl

-- each holds
pub done : true ≡ every []
unfolding every
done = refl

-- one that holds says nothing, and the last decides
pub holds : {r : Bool} (t : Bool) (ts : List Bool) → t ≡ true → r ≡ every ts → r ≡ every (t ∷ ts)
unfolding every
holds t ts h e = rw h e

pub decides : (t : Bool) → t ≡ every (t ∷ [])
unfolding every
decides true = refl
decides false = refl

-- clause i, from all
pub clause : (i : ℕ) (ts : List Bool) → every ts ≡ true → get_or ts i true ≡ true
unfolding every
clause i [] e = refl
clause zero (t ∷ ts) e = (both t (every ts) e).0
clause (suc i) (t ∷ ts) e = clause i ts (both t (every ts) e).1

-- all, with another first one that holds
pub another : (s t : Bool) (ts : List Bool) → t ≡ true → every (s ∷ ts) ≡ true → every (t ∷ ts) ≡ true
unfolding every
another s t ts h e = rw h (both s (every ts) e).1

-- ---- one of a list of clauses

-- clause i, from 0, holds
pub one : (i : ℕ) (ts : List Bool) → get_or ts i false ≡ true → true ≡ either ts
unfolding either
one i [] e = sym e
one zero (t ∷ ts) e = rw e
one (suc i) (true ∷ ts) e = refl
one (suc i) (false ∷ ts) e = one i ts e

-- none does
pub none : false ≡ either []
unfolding either
none = refl

-- one that fails says nothing
pub lacks : {r : Bool} (t : Bool) (ts : List Bool) → t ≡ false → r ≡ either ts → r ≡ either (t ∷ ts)
unfolding either
lacks t ts h e = rw h e

-- one of two, from either
pub of_two : {A : Type 0} (s t : Bool) → either (s ∷ t ∷ []) ≡ true → (s ≡ true → A) → (t ≡ true → A) → A
unfolding either
of_two true t e f g = f refl
of_two false true e f g = g refl
of_two false false e f g = f e

-- ---- the answer

pub yea : (t : Bool) → true ≡ t → 1 ≡ one_if t
unfolding one_if
yea t e = rw (← e)

pub nay : (t : Bool) → false ≡ t → 0 ≡ one_if t
unfolding one_if
nay t e = rw (← e)

-- the number of a bool
pub told : {b t : Bool} {r : ℕ} → r ≡ from_bool b → b ≡ t → r ≡ one_if t
unfolding one_if
told {b} e q = rw (e, ← q) (go b)
  where
    go : (b : Bool) → from_bool b ≡ one_if b
    go true = refl
    go false = refl

-- the answer to the same rule, said otherwise
pub answer : (s t : Bool) {r : ℕ} → r ≡ one_if s → s ≡ t → r ≡ one_if t
answer s t e q = rw q at e

pub was_nay : (t : Bool) (r : ℕ) → r ≡ 0 → r ≡ one_if t → t ≡ false
unfolding one_if
was_nay true r z e = absurd (omega arith)
was_nay false r z e = refl

pub was_yea : (t : Bool) (r : ℕ) → (r ≡ 0 → ⊥) → r ≡ one_if t → t ≡ true
unfolding one_if
was_yea true r z e = refl
was_yea false r z e = absurd (z e)

-- a rule that was asked
pub asked_yea : (t : Bool) → (one_if t ≡ 0 → ⊥) → t ≡ true
asked_yea t z = was_yea t (one_if t) z refl

pub asked_nay : (t : Bool) → one_if t ≡ 0 → t ≡ false
asked_nay t z = was_nay t (one_if t) z refl
