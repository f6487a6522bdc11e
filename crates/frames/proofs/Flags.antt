-- The mode set of the flags of the types, term after term. Assumes nothing.
use Prim.Native.Nat.{ℕ, ◌+◌, ◌*◌, ◌^◌, ◌≤◌, ◌<◌}
use native.Mathlib.Omega.{arith}
use native.Mathlib.Nat.{mul-le-mul_left, mul-zero}
use mathlib.Core.Path.{◌≡◌, refl, sym, ◌∙◌}
use mathlib.Core.Bool.{Bool, true}
use mathlib.Core.List.{List, [], ◌∷◌}
use lib.ListN.{get_or}
use Rattle.wire.specs.Tests.{if_eq}
use Rattle.wire.specs.Clauses.{is_eq, is_le, every}
use Rattle.wire.specs.Sums.{sum_to}
use Rattle.wire.proofs.Tests.{through}
use Rattle.wire.proofs.Clauses.{clause, eq_is, le_is}
use Rattle.wire.proofs.Sums.{sum_none, sum_more}
use Rattle.frames.specs.Modes.{type_bit, flag_bit, flagged}
use Rattle.frames.proofs.Entries.{each, at}

-- the mode bits, as the code has them
abbrev pub bits : List ℕ
bits = 1 ∷ 2 ∷ 4 ∷ 8 ∷ 16 ∷ 32 ∷ 64 ∷ 128 ∷ 256 ∷ 512 ∷ 1024 ∷ 2048 ∷ 4096 ∷ 8192 ∷ 0 ∷ 32768 ∷ []

right : ℕ → ℕ → Bool
right t x = every (is_eq x (if_eq t 14 0 (2 ^ t)) ∷ is_le x 32768 ∷ [])

tested : each right 0 bits ≡ true
unfolding right every is_eq is_le if_eq
tested = refl

record Bit (t x : ℕ) : Type 0 where
  is : x ≡ if_eq t 14 0 (2 ^ t)
  most : x ≤ 32768

bit_is : (t : ℕ) → t < 16 → Bit t (get_or bits t 0)
unfolding right
bit_is t h =
    let e = at right bits tested t h in
    record { is = eq_is (get_or bits t 0) (if_eq t 14 0 (2 ^ t)) (clause 0 _ e); most = le_is (get_or bits t 0) 32768 (clause 1 _ e) }

-- ---- one term

-- a byte's worth of the largest bit
pub term_most : (x t : ℕ) → x < 256 → t < 16 → x * get_or bits t 0 ≤ 8355840
term_most x t h g = let m : x * get_or bits t 0 ≤ x * 32768 = mul-le-mul_left x (bit_is t g).most in omega arith

term_is : (flags : List ℕ) (t : ℕ) → t < 16 → get_or flags t 0 * get_or bits t 0 ≡ flag_bit flags t
unfolding flag_bit type_bit
term_is flags t g =
    rw (bit_is t g).is (through (λ b. get_or flags t 0 * b) t 14 0 (2 ^ t) ∙ rw (mul-zero (get_or flags t 0)))

-- ---- the sum up to t

pub record Summed (flags : List ℕ) (t modes : ℕ) : Type 0 where
  pub sum : modes ≡ sum_to (flag_bit flags) t
  pub fits : modes ≤ 8355840 * t
  pub inside : t ≤ 16

pub summed_none : (flags : List ℕ) → Summed flags 0 0
summed_none flags = record { sum = sym (sum_none (flag_bit flags)); fits = omega arith; inside = omega arith }

pub summed_more : {flags : List ℕ} {t modes : ℕ} (x : ℕ) → Summed flags t modes → t < 16 → x ≡ get_or flags t 0 → x < 256
    → Summed flags (t + 1) (modes + x * get_or bits t 0)
summed_more {flags} {t} x s g e h =
    let q : x * get_or bits t 0 ≡ flag_bit flags t = rw e (term_is flags t g) in
    record {
      sum = omega (arith, sum_more (flag_bit flags) t);
      fits = omega (arith, term_most x t h g);
      inside = omega arith;
    }

pub summed_all : {flags : List ℕ} {t modes : ℕ} → Summed flags t modes → 16 ≤ t → modes ≡ flagged flags
unfolding flagged
summed_all {flags} {t} s h = let e : t ≡ 16 = omega arith in rw e at s.sum
