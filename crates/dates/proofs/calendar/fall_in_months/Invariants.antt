-- The invariant: the day is `since` days after the start of month m, which has `days` days.
use Prim.Native.Nat.{◌+◌, ◌-◌, ◌<◌}
use Rattle.wire.specs.Sums.{sum_to}
use Rattle.dates.specs.Calendar.{month_days}
use mathlib.Core.Path.{◌≡◌}
use Rattle.dates.proofs.calendar.fall_in_months.Given as goal

abbrev pub invariant-loop-days : goal.invariant-loop-days
invariant-loop-days l = (l.days ≡ month_days l.y l.m) × (sum_to (month_days l.y) l.m + l.since ≡ l.n) × (l.m < 13)

abbrev pub decreases-loop-days : goal.decreases-loop-days
decreases-loop-days l = 13 - l.m
