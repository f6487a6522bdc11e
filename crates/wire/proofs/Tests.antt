-- A test's two ways, each in the direction of a need: the result is the choice; and back from the choice. Assumes nothing.
use Prim.Native.Nat.{ℕ, ◌≤◌, ◌<◌}
use mathlib.Core.Path.{◌≡◌, refl, sym, subst, ap, ◌∙◌}
use mathlib.Core.Bool.{Bool, true, false}
use mathlib.Core.Logic.{◌⊎◌, inl, inr, ⊎_elim}
use lib.Dec.{T, eqb, ltb}
use borrow.Author.Tests.{le-ltb, lt-ltb, le-leb, lt-leb, eq-eqb, ne_eqb, eqb-true, eqb-false, ltb-true, ltb-false}
use Rattle.wire.specs.Tests.{pick, if_eq, if_lt, if_le}

pub eq_yea : {A : Type 0} (m n : ℕ) (a b r : A) → m ≡ n → r ≡ a → r ≡ if_eq m n a b
unfolding if_eq
eq_yea m n a b r h g = rw (eq-eqb m n h) g

pub eq_nay : {A : Type 0} (m n : ℕ) (a b r : A) → (m ≡ n → ⊥) → r ≡ b → r ≡ if_eq m n a b
unfolding if_eq
eq_nay m n a b r h g = rw (ne_eqb m n h) g

pub lt_yea : {A : Type 0} (m n : ℕ) (a b r : A) → m < n → r ≡ a → r ≡ if_lt m n a b
unfolding if_lt
lt_yea m n a b r h g = rw (lt-ltb m n h) g

pub lt_nay : {A : Type 0} (m n : ℕ) (a b r : A) → n ≤ m → r ≡ b → r ≡ if_lt m n a b
unfolding if_lt
lt_nay m n a b r h g = rw (le-ltb m n h) g

pub le_yea : {A : Type 0} (m n : ℕ) (a b r : A) → m ≤ n → r ≡ a → r ≡ if_le m n a b
unfolding if_le
le_yea m n a b r h g = rw (le-leb m n h) g

pub le_nay : {A : Type 0} (m n : ℕ) (a b r : A) → n < m → r ≡ b → r ≡ if_le m n a b
unfolding if_le
le_nay m n a b r h g = rw (lt-leb m n h) g

-- ---- two cases

pub eq_or : {A : Type 0} (m n : ℕ) → (m ≡ n → A) → ((m ≡ n → ⊥) → A) → A
eq_or {A} m n f g = go (eqb m n) refl
  where
    go : (t : Bool) → eqb m n ≡ t → A
    go true e = f (eqb-true m n e)
    go false e = g (eqb-false m n e)

pub lt_or : {A : Type 0} (m n : ℕ) → (m < n → A) → (n ≤ m → A) → A
lt_or {A} m n f g = go (ltb m n) refl
  where
    go : (t : Bool) → ltb m n ≡ t → A
    go true e = f (ltb-true m n e)
    go false e = g (ltb-false m n e)

-- ---- back from the choice

-- one way or the other
pub eq_ways : {A : Type 0} (m n : ℕ) (a b r : A) → if_eq m n a b ≡ r → ((m ≡ n) × (a ≡ r)) ⊎ ((m ≡ n → ⊥) × (b ≡ r))
eq_ways m n a b r h = eq_or m n (λ e. inl (e, eq_yea m n a b a e refl ∙ h)) (λ e. inr (e, eq_nay m n a b b e refl ∙ h))

pub lt_ways : {A : Type 0} (m n : ℕ) (a b r : A) → if_lt m n a b ≡ r → ((m < n) × (a ≡ r)) ⊎ ((n ≤ m) × (b ≡ r))
lt_ways m n a b r h = lt_or m n (λ e. inl (e, lt_yea m n a b a e refl ∙ h)) (λ e. inr (e, lt_nay m n a b b e refl ∙ h))

-- what holds of both holds of the choice
pub eq_any : {A : Type 0} (P : A → Type 0) (m n : ℕ) (a b : A) → P a → P b → P (if_eq m n a b)
eq_any P m n a b p q = eq_or m n (λ e. subst P (eq_yea m n a b a e refl) p) (λ e. subst P (eq_nay m n a b b e refl) q)

-- a choice goes through a function
pub through : {A B : Type 0} (f : A → B) (m n : ℕ) (a b : A) → f (if_eq m n a b) ≡ if_eq m n (f a) (f b)
through f m n a b = eq_or m n (λ e. ap f (sym (eq_yea m n a b a e refl)) ∙ eq_yea _ _ _ _ _ e refl) (λ e. ap f (sym (eq_nay m n a b b e refl)) ∙ eq_nay _ _ _ _ _ e refl)

-- a test that is asked where m is n, and one that is asked elsewhere, each kept
pub eq_kept : (m n : ℕ) (s s' t t' : Bool) → (m ≡ n → s ≡ true → s' ≡ true) → (t ≡ true → t' ≡ true) → if_eq m n s t ≡ true → if_eq m n s' t' ≡ true
eq_kept m n s s' t t' f g h =
    ⊎_elim (λ w. sym (eq_yea _ _ _ _ _ w.0 (sym (f w.0 w.1)))) (λ w. sym (eq_nay _ _ _ _ _ w.0 (sym (g w.1)))) (eq_ways m n s t true h)

-- two tests that both hold
pub both : (s t : Bool) → pick s t false ≡ true → (s ≡ true) × (t ≡ true)
both true t e = (refl, e)
both false t e = absurd (subst T (sym e) tt)

-- what is chosen where m is n may be said otherwise there
pub eq_same : {A : Type 0} (m n : ℕ) (a a' b : A) → (m ≡ n → a ≡ a') → if_eq m n a b ≡ if_eq m n a' b
eq_same m n a a' b h = eq_or m n (λ e. eq_yea _ _ _ _ _ e (sym (eq_yea _ _ _ _ _ e (sym (h e))))) (λ e. eq_nay _ _ _ _ _ e (sym (eq_nay _ _ _ _ _ e refl)))
