-- What code answers of the values in an `esds` and of their fixed numbers. Assumes nothing.
use Prim.Native.Nat.{ℕ, ◌/◌}
use mathlib.Core.Path.{◌≡◌, sym, ◌∙◌}
use mathlib.Core.List.{List}
use lib.ListN.{get_or}
use Rattle.wire.specs.Numbers.{word}
use Rattle.wire.proofs.Numbers.{word_byte}
use Rattle.esds.specs.Values.{values_by}

byte_is : (xs : List ℕ) (at : ℕ) {b : ℕ} → b ≡ get_or xs at 0 → word 1 xs at ≡ b
byte_is xs at e = word_byte xs at ∙ sym e

-- ---- what two parts say

pub values_said : (kind : ℕ) (es own : List ℕ) (specific : ℕ) {n o s b m a : ℕ} → n ≡ word 2 es 0 → o ≡ get_or own 0 0 → s ≡ get_or own 1 0 → b ≡ word 3 own 2
    → m ≡ word 4 own 5 → a ≡ word 4 own 9
    → record { kind = kind; number = n; object = o; stream = s / 4; buffer = b; maximum = m; average = a; specific = specific } ≡ values_by kind es own specific
unfolding values_by
values_said kind es own specific p q r t u w = rw (p, ← byte_is own 0 q, ← byte_is own 1 r, t, u, w)
