-- Clocks: times of 1904, and a zone's minutes ahead of universal time, which may be negative.
use Rattle.std.specs.Prelude.{ℕ, suc, ◌*◌, Bool, true, false, [], ◌∷◌, ℤ, pos, negsuc, ◌-ℤ◌, ◌*ℤ◌}
use Rattle.wire.specs.Tests.{pick, if_eq, if_lt}
use Rattle.wire.specs.Clauses.{is_le, is_lt, every}
use Rattle.clocks.specs.declared.Zone.{Zone}
use Rattle.std.specs.declared.option.Option.{Option}
use Rattle.std.specs.declared.option.Option.TheVariants.{Some, None}
use Rattle.clocks.specs.declared.Order.{Order}
use Rattle.clocks.specs.declared.Order.TheVariants.{Earlier, Same, Later}

-- "-840 to 840"
abbrev pub zone_fine : ℤ → Bool
zone_fine (pos n) = is_le n 840
zone_fine (negsuc n) = is_lt n 840

-- a time "less 60 times the minutes, a whole number that may be negative"
abbrev pub less : ℕ → ℤ → ℤ
less t z = pos t -ℤ (pos 60 *ℤ z)

-- ---- the shift of a time

-- "1 to 4,294,967,295"
abbrev pub is_time : ℤ → Bool
is_time (pos n) = every (is_le 1 n ∷ is_le n 4294967295 ∷ [])
is_time (negsuc n) = false

abbrev pub natural : ℤ → ℕ
natural (pos n) = n
natural (negsuc n) = 0

-- "60z is taken from each non-zero creation and modification time .. Zero stays zero."
unfoldable pub shift_time : ℤ → ℕ → ℕ
shift_time z t = if_eq t 0 0 (natural (less t z))

-- and whether it may be
unfoldable pub may_shift : ℤ → ℕ → Bool
may_shift z t = if_eq t 0 true (is_time (less t z))

-- ---- the order of two times

-- "whether the first is earlier, same or later", as a number
abbrev pub order_number : Order → ℕ
order_number Earlier = 0
order_number Same = 1
order_number Later = 2

unfoldable pub in_order : ℕ → ℕ → Order
in_order m n = if_lt m n Earlier (if_eq m n Same Later)

-- of two whole numbers
abbrev pub order : ℤ → ℤ → Order
order (pos m) (pos n) = in_order m n
order (pos m) (negsuc n) = Later
order (negsuc m) (pos n) = Earlier
order (negsuc m) (negsuc n) = in_order n m

-- ---- the minutes as two numbers of seconds, of which one is 0: ahead of universal time, and behind it

abbrev pub zone_of : ℤ → Zone
zone_of (pos n) = record { ahead = 60 * n; behind = 0 }
zone_of (negsuc n) = record { ahead = 0; behind = 60 * suc n }

abbrev pub zoned_of : ℤ → Option Zone
zoned_of z = pick (zone_fine z) (Some (zone_of z)) None
