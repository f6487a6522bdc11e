-- What code asks of a zone in seconds, in sums of natural numbers.
use Rattle.std.specs.Prelude.{ℕ, ◌+◌, ◌-◌, ◌≤◌, Bool, true, [], ◌∷◌}
use Rattle.wire.specs.Tests.{if_eq}
use Rattle.wire.specs.Clauses.{is_le, is_lt, every}
use Rattle.clocks.specs.declared.Zone.{Zone}
use Rattle.clocks.specs.declared.Order.{Order}
use Rattle.clocks.specs.Clocks.{in_order}

-- at most 840 minutes
pub record Near (z : Zone) : Type 0 where
  pub ahead : z.ahead ≤ 50400
  pub behind : z.behind ≤ 50400

unfoldable pub leaves : Zone → ℕ → Bool
leaves z t = if_eq t 0 true (every (is_lt z.ahead (t + z.behind) ∷ is_le (t + z.behind - z.ahead) 4294967295 ∷ []))

-- both sides moved up by what each clock takes away
unfoldable pub compared : ℕ → Zone → ℕ → Zone → Order
compared m y n z = in_order (m + y.behind + z.ahead) (n + z.behind + y.ahead)
