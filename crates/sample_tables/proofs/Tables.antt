-- Laws of tables. Assumes nothing.
use Prim.Native.Nat.{ℕ, ◌+◌, ◌*◌, ◌^◌, ◌≤◌, ◌<◌}
use native.Mathlib.Omega.{arith}
use native.Mathlib.Nat.{mul-le-mul_left, mul-le-mul_right, mul-add, mul-one}
use mathlib.Core.Path.{◌≡◌}
use mathlib.Core.Bool.{true}
use mathlib.Core.List.{List}
use lib.ListN.{length}
use Rattle.wire.proofs.Clauses.{eq_is, clause}
use Rattle.sample_tables.specs.Tables.{items, has_form, Form, Table}

-- the form, as a test and as facts
pub form_is : (n : ℕ) (xs : List ℕ) → has_form n xs ≡ true → Form n xs
unfolding has_form
form_is n xs e = record { version = eq_is _ _ (clause 0 _ e); long = eq_is _ _ (clause 1 _ e) }

-- the one-table-entry length fact, over the item width: a number of an item of a table lies inside
pub item_inside : (w j i : ℕ) (xs : List ℕ) → Table w xs → j + 4 ≤ w → i < items xs → 8 + j + w * i + 4 ≤ length xs
item_inside w j i xs t h k =
    let m : w * (i + 1) ≤ w * items xs = mul-le-mul_left w (omega arith) in
    omega (arith, t.long, mul-add w i 1, mul-one w)

-- no stored count makes a length wrap
pub width_fits : (w n : ℕ) → w ≤ 12 → n < 2 ^ 32 → w * n ≤ 12 * 2 ^ 32
width_fits w n h l = let m : w * n ≤ 12 * n = mul-le-mul_right n h in omega arith
