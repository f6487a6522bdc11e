-- Sums of natural numbers say what 01 says over the whole numbers. Assumes nothing.
use Prim.Native.Nat.{ℕ, zero, suc, ◌+◌, ◌-◌, ◌*◌, ◌<◌}
use native.Mathlib.Omega.{arith}
use native.Mathlib.Nat.{add-zero, sub-zero}
use mathlib.Core.Path.{◌≡◌, refl, sym, ◌∙◌}
use mathlib.Core.Bool.{Bool, true, false, cond}
use mathlib.Core.List.{[], ◌∷◌}
use lib.Dec.{ltb}
use lib.IntN.{ℤ, pos, negsuc, sub_ℕ, ◌-ℤ◌, neg_ℤ-neg_ℤ}
use borrow.Author.Tests.{ltb-true, ltb-false, le-ltb}
use Rattle.wire.specs.Clauses.{is_le, is_lt, every}
use Rattle.wire.specs.Tests.{pick, if_eq}
use Rattle.wire.proofs.Tests.{lt_yea, lt_nay, eq_yea, eq_nay, lt_or}
use Rattle.wire.proofs.Clauses.{is_le_lem, not_le, is_lt_lem, not_lt}
use Rattle.clocks.specs.declared.Order.TheVariants.{Earlier, Same, Later}
use Rattle.clocks.specs.Clocks.{less, is_time, natural, shift_time, may_shift, in_order, order, zone_of}
use Rattle.clocks.specs.Zones.{leaves, compared}

-- ---- a time less its zone is a difference of natural numbers

sub_none : (a : ℕ) → sub_ℕ a 0 ≡ pos a
sub_none a = rw (le-ltb a 0 (omega arith), sub-zero)

sub_pos : (a b : ℕ) → pos a -ℤ pos b ≡ sub_ℕ a b
sub_pos a zero = rw (sub_none, add-zero)
sub_pos a (suc b) = refl

pub less_is : (t : ℕ) (z : ℤ) → less t z ≡ sub_ℕ (t + (zone_of z).behind) (zone_of z).ahead
less_is t (pos n) = rw add-zero (sub_pos t (60 * n))
less_is t (negsuc n) = rw (neg_ℤ-neg_ℤ, sub_none)

-- ---- the shift

sub_stored : (a b : ℕ) → natural (sub_ℕ a b) ≡ a - b
sub_stored a b = go (ltb a b) refl
  where
    go : (s : Bool) → ltb a b ≡ s → natural (cond s (negsuc (b - suc a)) (pos (a - b))) ≡ a - b
    go true e = omega (arith, ltb-true a b e)
    go false e = refl

sub_time : (a b : ℕ) → is_time (sub_ℕ a b) ≡ every (is_lt b a ∷ is_le (a - b) 4294967295 ∷ [])
unfolding every is_le is_lt
sub_time a b = go (ltb a b) refl
  where
    go : (s : Bool) → ltb a b ≡ s → is_time (cond s (negsuc (b - suc a)) (pos (a - b))) ≡ every (is_lt b a ∷ is_le (a - b) 4294967295 ∷ [])
    go true e = let h = ltb-true a b e in rw (not_lt b a (omega arith))
    go false e = near (ltb b a) refl
      where
        near : (t : Bool) → ltb b a ≡ t → pick (is_le 1 (a - b)) (pick (is_le (a - b) 4294967295) true false) false ≡ pick (is_lt b a) (pick (is_le (a - b) 4294967295) true false) false
        near true f = let h = ltb-true b a f in rw (is_le_lem 1 (a - b) (omega arith), is_lt_lem b a h)
        near false f = let h = ltb-false b a f in rw (not_le 1 (a - b) (omega arith), not_lt b a h)

pub shift_is : (z : ℤ) (t : ℕ) → shift_time z t ≡ if_eq t 0 0 (t + (zone_of z).behind - (zone_of z).ahead)
unfolding shift_time
shift_is z t = rw (less_is t z, sub_stored (t + (zone_of z).behind) (zone_of z).ahead)

pub may_is : (z : ℤ) (t : ℕ) → may_shift z t ≡ leaves (zone_of z) t
unfolding may_shift leaves
may_is z t = rw (less_is t z, sub_time (t + (zone_of z).behind) (zone_of z).ahead)

-- ---- the order

module _ (m n : ℕ) where
  pub earlier : m < n → Earlier ≡ in_order m n
  unfolding in_order
  earlier h = lt_yea _ _ _ _ _ h refl

  pub same : m ≡ n → Same ≡ in_order m n
  unfolding in_order
  same h = lt_nay _ _ _ _ _ (omega arith) (eq_yea _ _ _ _ _ h refl)

  pub later : n < m → Later ≡ in_order m n
  unfolding in_order
  later h = lt_nay _ _ _ _ _ (omega arith) (eq_nay _ _ _ _ _ (omega arith) refl)

-- three cases
split : {A : Type 0} (m n : ℕ) → (m < n → A) → (m ≡ n → A) → (n < m → A) → A
split m n f g h = lt_or m n f (λ p. lt_or n m h (λ q. g (omega arith)))

-- as far apart
apart : (a b c d : ℕ) → a + d ≡ c + b → in_order a b ≡ in_order c d
apart a b c d e =
    split a b
    (λ h. sym (earlier a b h) ∙ earlier c d (omega arith))
    (λ h. sym (same a b h) ∙ same c d (omega arith))
    (λ h. sym (later a b h) ∙ later c d (omega arith))

-- two differences stand in the order of the sums
pub order_is : (a b c d : ℕ) → order (sub_ℕ a b) (sub_ℕ c d) ≡ in_order (a + d) (c + b)
order_is a b c d = go (ltb a b) (ltb c d) refl refl
  where
    go : (s t : Bool) → ltb a b ≡ s → ltb c d ≡ t → order (cond s (negsuc (b - suc a)) (pos (a - b))) (cond t (negsuc (d - suc c)) (pos (c - d))) ≡ in_order (a + d) (c + b)
    go true true p q = let h = ltb-true a b p in let k = ltb-true c d q in apart (d - suc c) (b - suc a) (a + d) (c + b) (omega arith)
    go true false p q = let h = ltb-true a b p in let k = ltb-false c d q in earlier (a + d) (c + b) (omega arith)
    go false true p q = let h = ltb-false a b p in let k = ltb-true c d q in later (a + d) (c + b) (omega arith)
    go false false p q = let h = ltb-false a b p in let k = ltb-false c d q in apart (a - b) (c - d) (a + d) (c + b) (omega arith)

-- "compare mvhd modification time less 60 times the minutes"
pub compared_is : (m : ℕ) (y : ℤ) (n : ℕ) (z : ℤ) → order (less m y) (less n z) ≡ compared m (zone_of y) n (zone_of z)
unfolding compared
compared_is m y n z = rw (less_is m y, less_is n z) (order_is (m + (zone_of y).behind) (zone_of y).ahead (n + (zone_of z).behind) (zone_of z).ahead)
