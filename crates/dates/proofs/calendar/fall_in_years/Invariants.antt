-- The invariant: the day is `since` days after the start of year 1904 + i, which has `days` days.
use Prim.Native.Nat.{◌+◌, ◌*◌, ◌≤◌}
use Rattle.wire.specs.Sums.{sum_to}
use Rattle.dates.specs.Calendar.{year_span}
use mathlib.Core.Path.{◌≡◌}
use Rattle.dates.proofs.calendar.fall_in_years.Given as goal

abbrev pub invariant-loop-days : goal.invariant-loop-days
invariant-loop-days l = (l.days ≡ year_span l.i) × (365 ≤ l.days) × (sum_to year_span l.i + l.since ≡ l.n) × (365 * l.i + l.since ≤ l.n)

abbrev pub decreases-loop-days : goal.decreases-loop-days
decreases-loop-days l = l.since
