-- The mode set of good frames has no bit of a type that the codec doesn't have. Assumes nothing.
use Prim.Native.Nat.{ℕ, zero, suc, ◌+◌, ◌-◌, ◌*◌, ◌^◌, ◌/◌, ◌%◌, ◌≤◌, ◌<◌}
use native.Mathlib.Omega.{arith}
use native.Mathlib.Nat.{mul-le-mul_right, pow-suc}
use native.Mathlib.Numerals.{add-one}
use mathlib.Core.Path.{◌≡◌, refl, sym}
use mathlib.Core.List.{List, [], ◌∷◌}
use lib.ListN.{length}
use Rattle.wire.specs.Tests.{if_eq}
use Rattle.wire.specs.Sums.{sum_to}
use Rattle.wire.proofs.Tests.{eq_or, eq_any, eq_yea, eq_nay}
use Rattle.wire.proofs.Sums.{sum_none, sum_more, sum_level}
use Rattle.frames.specs.declared.codec.Codec.{Codec}
use Rattle.frames.specs.declared.codec.Codec.TheVariants.{Amr, Wideband}
use Rattle.frames.specs.Codecs.{sizes, bare}
use Rattle.frames.specs.Frames.{type_of, EachGood, none, some}
use Rattle.frames.specs.Modes.{type_bit, seen, mode_bit, mode_set}
use Rattle.frames.proofs.Table.{data_none}
use Rattle.frames.proofs.Fronts.{good_front}

-- ---- a type that is seen

pub seen_most : (t : ℕ) (l : List (List ℕ)) → seen t l ≤ 1
unfolding seen
seen_most t [] = omega arith
seen_most t (f ∷ l) = eq_any (λ n. n ≤ 1) (type_of f) t 1 (seen t l) (omega arith) (seen_most t l)

pub seen_not : (k : Codec) (t : ℕ) (l : List (List ℕ)) → length (sizes k) ≤ t → t < bare k → EachGood k l → seen t l ≡ 0
unfolding seen
seen_not k t [] h g none = refl
seen_not k t (f ∷ l) h g (some e s r) =
    let u = data_none k t h g in
    sym (eq_nay _ _ _ _ _ (λ q. omega (arith, rw q at (good_front k f e).known)) (sym (seen_not k t l h g r)))

-- ---- a bit of the set

bit_most : (l : List (List ℕ)) (t : ℕ) → mode_bit l t ≤ 2 ^ t
unfolding mode_bit type_bit
bit_most l t =
    eq_any (λ n. n ≤ 2 ^ t) t 14 0 (seen t l * 2 ^ t) (omega arith) (omega (arith, mul-le-mul_right (2 ^ t) (seen_most t l)))

bits_most : (l : List (List ℕ)) (t : ℕ) → sum_to (mode_bit l) t < 2 ^ t
bits_most l zero = rw sum_none (omega arith)
bits_most l (suc t) = rw (← add-one t, sum_more, add-one, pow-suc) (omega (arith, bits_most l t, bit_most l t))

pub modes_fit : (l : List (List ℕ)) → mode_set l < 65536
unfolding mode_set
modes_fit l = bits_most l 16

bit_none : (k : Codec) (l : List (List ℕ)) (t : ℕ) → EachGood k l → length (sizes k) ≤ t → t < 15 → mode_bit l t ≡ 0
unfolding mode_bit type_bit
bit_none k l t e h g =
    eq_or t 14 (λ q. sym (eq_yea _ _ _ _ _ q refl)) (λ q. sym (eq_nay _ _ _ _ _ q (rw (seen_not k t l h (known k q) e) (omega arith))))
  where
    known : (k : Codec) → (t ≡ 14 → ⊥) → t < bare k
    known Amr q = omega arith
    known Wideband q = omega arith

last_bit : (l : List (List ℕ)) → mode_bit l 15 ≡ seen 15 l * 32768
unfolding mode_bit type_bit if_eq
last_bit l = refl

few : (k : Codec) → length (sizes k) ≤ 15
few Amr = omega arith
few Wideband = omega arith

-- the bits of the types with data, and that of 15
pub modes_are : (k : Codec) (l : List (List ℕ)) → EachGood k l → mode_set l ≡ sum_to (mode_bit l) (length (sizes k)) + seen 15 l * 32768
unfolding mode_set
modes_are k l e =
    let a : ℕ = length (sizes k) in
    let f = few k in
    let d : a + (15 - a) ≡ 15 = omega arith in
    let q = sum_level (mode_bit l) a (15 - a) 0 (λ j h. bit_none k l (a + j) e (omega arith) (omega arith)) in
    omega (arith, rw d at q, sum_more (mode_bit l) 15, last_bit l)

pub modes_amr : (l : List (List ℕ)) → EachGood Amr l → (mode_set l / 512) % 64 ≡ 0
modes_amr l e = omega (arith, modes_are Amr l e, bits_most l 9, seen_most 15 l)

pub modes_wide : (l : List (List ℕ)) → EachGood Wideband l → (mode_set l / 1024) % 32 ≡ 0
modes_wide l e = omega (arith, modes_are Wideband l e, bits_most l 10, seen_most 15 l)
