-- What code writes by a zone is what is meant by minutes. Assumes nothing.
use Prim.Native.Nat.{ℕ, ◌+◌, ◌-◌, ◌<◌}
use native.Mathlib.Omega.{arith}
use mathlib.Core.Path.{◌≡◌, refl, sym, ◌∙◌}
use mathlib.Core.Bool.{Bool, true, false}
use mathlib.Core.List.{List}
use lib.Dec.{eqb}
use lib.IntN.{ℤ}
use lib.ListN.{length}
use borrow.Author.Tests.{eqb-true, eqb-false}
use Rattle.wire.specs.Tests.{pick, if_eq}
use Rattle.wire.specs.Numbers.{Bytes}
use Rattle.boxes.specs.Words.{moved}
use Rattle.boxes.proofs.Wording.{moved_low, moved_high}
use Rattle.clocks.specs.declared.Zone.{Zone}
use Rattle.clocks.specs.Clocks.{zone_of, shift_time, may_shift}
use Rattle.clocks.specs.Zones.{leaves}
use Rattle.clocks.proofs.Whole.{shift_is, may_is}
use Rattle.edit_offsets.proofs.Settled.{settled_same}
use Rattle.edit_offsets.specs.Close.{closed}
use Rattle.edit_offsets.proofs.ClosedFile.{length_closed, bytes_closed, alike_then}
use Rattle.edit_shift.specs.Shift.{all_times_by, shift_of}
use Rattle.edit_shift.specs.Amount.{by_zone, zone_text}
use Rattle.edit_shift.proofs.Passing.{all_bytes, all_alike}

ext : {A : Type 0} (f g : ℕ → A) → ((n : ℕ) → f n ≡ g n) → f ≡ g
ext f g h = λ i n. h n i

-- a time of 0 is below the limit of 1
moved_is : (z : Zone) (t : ℕ) → if_eq t 0 0 (t + z.behind - z.ahead) ≡ moved (by_zone z) t
unfolding if_eq
moved_is z t = go (eqb t 0) refl
  where
    go : (s : Bool) → eqb t 0 ≡ s → pick s 0 (t + z.behind - z.ahead) ≡ moved (by_zone z) t
    go true e = let h = eqb-true t 0 e in moved_low (by_zone z) t (omega arith) (omega arith)
    go false e = let h = eqb-false t 0 e in moved_high (by_zone z) t (omega arith) refl

pub times_are : (z : ℤ) → moved (by_zone (zone_of z)) ≡ shift_time z
times_are z = ext _ _ (λ t. sym (shift_is z t ∙ moved_is (zone_of z) t))

pub leaves_are : (z : ℤ) → leaves (zone_of z) ≡ may_shift z
leaves_are z = ext _ _ (λ t. sym (may_is z t))

pub shift_text : (z : ℤ) (xs : List ℕ) → Bytes xs → length xs < 4294967296 → zone_text (zone_of z) xs ≡ shift_of z xs
unfolding zone_text shift_of
shift_text z xs v h =
    let u = bytes_closed xs v h in
    let n = length_closed xs in
    rw (times_are z) (sym (settled_same xs (all_times_by (shift_time z) (closed xs)) (alike_then xs v h (all_alike (shift_time z) (closed xs) u (omega arith))) (all_bytes (shift_time z) (closed xs) u)))
