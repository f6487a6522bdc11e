-- The bits of mode_set that its mask lacks, as code finds them: by division. Assumes nothing.
use Prim.Native.Nat.{ℕ, ◌+◌, ◌-◌, ◌*◌, ◌/◌, ◌%◌, ◌^◌, ◌≤◌}
use native.Mathlib.Omega.{arith}
use native.Mathlib.Nat.{zero-mul, mul-le-mul_left, one-le-pow}
use mathlib.Core.Path.{◌≡◌, refl, sym, ◌∙◌}
use lib.Bits.{bit_and, and_high}
use Rattle.wire.specs.Tests.{if_eq}
use Rattle.wire.specs.Clauses.{is_eq}
use Rattle.wire.proofs.Tests.{eq_yea, eq_nay, eq_or}
use Rattle.wire.proofs.Clauses.{not_eq}
use Rattle.entry_heads.specs.Kinds.{SamrKind}
use Rattle.entry_rules.specs.Decoders.{mode_mask, modes_rule}

-- none of the j bits from bit k on
lacking : (n j k : ℕ) → is_eq (bit_and n (2 ^ (j + k) - 2 ^ k)) 0 ≡ is_eq (n / 2 ^ k % 2 ^ j) 0
lacking n j k =
    let p : n / 2 ^ k % 2 ^ j * 1 ≤ n / 2 ^ k % 2 ^ j * 2 ^ k = mul-le-mul_left (n / 2 ^ k % 2 ^ j) (one-le-pow k 2 (omega arith)) in
    rw (and_high n j k)
    (eq_or (n / 2 ^ k % 2 ^ j) 0 (λ e. rw (e, zero-mul)) (λ h. not_eq _ _ (λ z. h (omega arith)) ∙ sym (not_eq _ _ h)))

pub modes_is : (kind modes : ℕ) → modes_rule kind modes ≡ if_eq kind SamrKind (is_eq (modes / 512 % 64) 0) (is_eq (modes / 1024 % 32) 0)
unfolding modes_rule mode_mask
modes_is kind modes =
    eq_or kind SamrKind
    (λ e.
    let m : ◌≡◌ {A = ℕ} (if_eq kind SamrKind 0x81FF 0x83FF) 0x81FF = sym (eq_yea _ _ _ _ _ e refl) in
    rw m (eq_yea _ _ _ _ _ e (lacking modes 6 9)))
    (λ e.
    let m : ◌≡◌ {A = ℕ} (if_eq kind SamrKind 0x81FF 0x83FF) 0x83FF = sym (eq_nay _ _ _ _ _ e refl) in
    rw m (eq_nay _ _ _ _ _ e (lacking modes 5 10)))
