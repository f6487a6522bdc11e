-- What the tests of a sign say of the zone. Assumes nothing.
use Prim.Native.Nat.{ℕ, ◌*◌, ◌≤◌, ◌<◌}
use native.Mathlib.Omega.{arith}
use native.Mathlib.Nat.{zero-add}
use mathlib.Core.Path.{◌≡◌, refl, sym, ◌∙◌}
use mathlib.Core.Bool.{Bool, true, false}
use lib.IntN.{ℤ, pos, negsuc, nat_abs, ◌-ℤ◌}
use lib.Signed.{lt_z, non_neg}
use lib.Dec.{T}
use borrow.Author.Tests.{ltb-true, ltb-false}
use mir.Syntax.{w64}
use mir.Val.{Fits, SFits}
use Rattle.wire.specs.Tests.{pick}
use Rattle.wire.proofs.Clauses.{is_le_lem, not_le, is_lt_lem, not_lt, le_is, lt_is}
use Rattle.clocks.specs.declared.Zone.{Zone}
use Rattle.std.specs.declared.option.Option.{Option}
use Rattle.std.specs.declared.option.Option.TheVariants.{Some, None}
use Rattle.clocks.specs.Clocks.{zone_fine, zone_of, zoned_of}
use Rattle.clocks.specs.Zones.{Near}

never : {X : Type 0} → true ≡ false → X
never e = let z : ◌≡◌ {A = ℕ} 0 1 = cc in absurd (omega arith)

pub low : (z : ℤ) → lt_z z (negsuc 839) ≡ true → None ≡ zoned_of z
low (pos n) h = let z : ◌≡◌ {A = ℕ} 0 1 = cc in absurd (omega arith)
low (negsuc n) h = rw (not_lt n 840 (omega (arith, ltb-true 839 n h)))

pub high : (z : ℤ) → lt_z (pos 840) z ≡ true → None ≡ zoned_of z
high (pos n) h = rw (not_le n 840 (ltb-true 840 n h))
high (negsuc n) h = let z : ◌≡◌ {A = ℕ} 0 1 = cc in absurd (omega arith)

pub back : (z : ℤ) → lt_z z (negsuc 839) ≡ false → lt_z z (pos 0) ≡ true
    → SFits w64 (pos 0 -ℤ z) × (T (non_neg (pos 0 -ℤ z)) × Fits w64 (nat_abs (pos 0 -ℤ z))) × (nat_abs (pos 0 -ℤ z) ≤ 840) × (Some (record { ahead = 0; behind = 60 * nat_abs (pos 0 -ℤ z) }) ≡ zoned_of z)
back (pos n) g h = absurd (omega (arith, ltb-true n 0 h))
back (negsuc n) g h =
    let l : n < 840 = omega (arith, ltb-false 839 n g) in
    (omega arith, (tt, omega arith), omega arith, rw (zero-add, is_lt_lem n 840 l))

pub on : (z : ℤ) → lt_z (pos 840) z ≡ false → lt_z z (pos 0) ≡ false
    → (T (non_neg z) × Fits w64 (nat_abs z)) × (nat_abs z ≤ 840) × (Some (record { ahead = 60 * nat_abs z; behind = 0 }) ≡ zoned_of z)
on (pos n) g h =
    let l : n ≤ 840 = ltb-false 840 n g in
    ((tt, omega arith), l, rw (is_le_lem n 840 l))
on (negsuc n) g h = never h

-- ---- what a caller learns

near : (z : ℤ) → zone_fine z ≡ true → Near (zone_of z)
near (pos n) h = let l = le_is n 840 h in record { ahead = omega arith; behind = omega arith }
near (negsuc n) h = let l = lt_is n 840 h in record { ahead = omega arith; behind = omega arith }

zone_case : (b : Bool) (u v : Zone) → Some v ≡ pick b (Some u) None → (b ≡ true) × (v ≡ u)
zone_case true u v e = (refl, cc)
zone_case false u v e = let z : ◌≡◌ {A = ℕ} 0 1 = cc in absurd (omega arith)

none_case : (b : Bool) (u : Zone) → None ≡ pick b (Some u) None → b ≡ false
none_case true u e = let z : ◌≡◌ {A = ℕ} 0 1 = cc in absurd (omega arith)
none_case false u e = refl

module _ (z : ℤ) {w : Option Zone} (q : w ≡ zoned_of z) where
  pub zone_found : (v : Zone) → w ≡ Some v → (zone_fine z ≡ true) × (v ≡ zone_of z) × Near v
  zone_found v e =
      let o = zone_case (zone_fine z) (zone_of z) v (sym e ∙ q) in
      (o.0, o.1, rw o.1 (near z o.0))

  pub zone_missing : w ≡ None → zone_fine z ≡ false
  zone_missing e = none_case (zone_fine z) (zone_of z) (sym e ∙ q)
