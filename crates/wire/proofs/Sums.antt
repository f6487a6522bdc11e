-- Laws of sums and of claims. Assumes nothing.
use Prim.Native.Nat.{ℕ, zero, suc, ◌+◌, ◌*◌, ◌≤◌, ◌<◌}
use native.Mathlib.Omega.{arith}
use native.Mathlib.Nat.{add-mul, mul-le-mul_left, eq-or-lt_of_le, le_of_suc-le-suc}
use native.Mathlib.Numerals.{add-one}
use mathlib.Core.Path.{◌≡◌, refl, sym, ◌∙◌}
use mathlib.Core.Bool.{Bool, true, false}
use mathlib.Core.Logic.{⊎_elim}
use Rattle.wire.specs.Sums.{sum_to, all_to}
use Rattle.wire.proofs.Tests.{both}

pub sum_none : (f : ℕ → ℕ) → sum_to f 0 ≡ 0
unfolding sum_to
sum_none f = refl

pub sum_more : (f : ℕ → ℕ) (n : ℕ) → sum_to f (n + 1) ≡ sum_to f n + f n
unfolding sum_to
sum_more f n = rw add-one

-- terms that agree below n add up to the same
pub sum_same : (f g : ℕ → ℕ) (n : ℕ) → ((i : ℕ) → i < n → f i ≡ g i) → sum_to f n ≡ sum_to g n
unfolding sum_to
sum_same f g zero h = refl
sum_same f g (suc n) h = rw (sum_same f g n (λ i k. h i (omega arith)), h n (omega arith))

-- a shorter sum is no larger
pub sum_mono : (f : ℕ → ℕ) (m n : ℕ) → m ≤ n → sum_to f m ≤ sum_to f n
unfolding sum_to
sum_mono f m zero h = let e : m ≡ 0 = omega arith in rw e (omega arith)
sum_mono f m (suc n) h = ⊎_elim (λ e. rw e (omega arith)) (λ l. omega (arith, sum_mono f m n (le_of_suc-le-suc l))) (eq-or-lt_of_le h)

-- terms that are all 0 from m on
pub sum_flat : (f : ℕ → ℕ) (m n : ℕ) → ((i : ℕ) → m ≤ i → f i ≡ 0) → m ≤ n → sum_to f n ≡ sum_to f m
unfolding sum_to
sum_flat f m zero h l = let e : m ≡ 0 = omega arith in rw e
sum_flat f m (suc n) h l =
    ⊎_elim (λ e. rw e) (λ k. let g = le_of_suc-le-suc k in omega (arith, h n g, sum_flat f m n h g)) (eq-or-lt_of_le l)

-- d terms from a on that are all k
pub sum_level : (f : ℕ → ℕ) (a d k : ℕ) → ((j : ℕ) → j < d → f (a + j) ≡ k) → sum_to f (a + d) ≡ sum_to f a + d * k
unfolding sum_to
sum_level f a zero k h = let e : a + 0 ≡ a = omega arith in rw e (omega arith)
sum_level f a (suc d) k h =
    let e : a + suc d ≡ suc (a + d) = omega arith in
    rw (e, ← add-one d, add-mul d 1 k) (omega (arith, h d (omega arith), sum_level f a d k (λ j l. h j (omega arith))))

-- terms that are each at most those of g
pub sum_le : (f g : ℕ → ℕ) (n : ℕ) → ((i : ℕ) → f i ≤ g i) → sum_to f n ≤ sum_to g n
unfolding sum_to
sum_le f g zero h = omega arith
sum_le f g (suc n) h = omega (arith, h n, sum_le f g n h)

-- terms that are each at most k
pub sum_at_most : (f : ℕ → ℕ) (k n : ℕ) → ((i : ℕ) → f i ≤ k) → sum_to f n ≤ n * k
unfolding sum_to
sum_at_most f k zero h = omega arith
sum_at_most f k (suc n) h = rw (← add-one n, add-mul n 1 k) (omega (arith, h n, sum_at_most f k n h))

-- terms that are each at most k times those of g
pub sum_scaled : (f g : ℕ → ℕ) (k n : ℕ) → ((i : ℕ) → g i ≤ k) → sum_to (λ i. f i * g i) n ≤ sum_to f n * k
unfolding sum_to
sum_scaled f g k zero h = omega arith
sum_scaled f g k (suc n) h =
    let m : f n * g n ≤ f n * k = mul-le-mul_left (f n) (h n) in
    rw (add-mul (sum_to f n) (f n) k) (omega (arith, sum_scaled f g k n h))

-- ---- claims

pub all_none : (p : ℕ → Bool) → all_to p 0 ≡ true
unfolding all_to
all_none p = refl

pub all_more : (p : ℕ → Bool) (n : ℕ) → all_to p n ≡ true → p n ≡ true → all_to p (n + 1) ≡ true
unfolding all_to
all_more p n h e = rw (add-one, h, e)

-- all, from each
pub all_of : (p : ℕ → Bool) (n : ℕ) → ((i : ℕ) → i < n → p i ≡ true) → all_to p n ≡ true
unfolding all_to
all_of p zero h = refl
all_of p (suc n) h = rw (all_of p n (λ i k. h i (omega arith)), h n (omega arith))

-- each, from all
pub all_at : (p : ℕ → Bool) (n : ℕ) → all_to p n ≡ true → (i : ℕ) → i < n → p i ≡ true
unfolding all_to
all_at p zero h i k = absurd (omega arith)
all_at p (suc n) h i k =
    let b = both (all_to p n) (p n) h in
    ⊎_elim (λ e. rw e b.1) (λ l. all_at p n b.0 i l) (eq-or-lt_of_le (le_of_suc-le-suc k))

-- one that fails makes the whole fail
pub all_fails : (p : ℕ → Bool) (n i : ℕ) → i < n → p i ≡ false → all_to p n ≡ false
all_fails p n i k e = go (all_to p n) refl
  where
    go : (t : Bool) → all_to p n ≡ t → t ≡ false
    go true h = sym (all_at p n h i k) ∙ e
    go false h = refl
