-- The date of a time. `date_valid` and `date_back` say that it is the date that is meant, `date_of_seconds` that there is no other.
use Rattle.std.specs.Prelude.{ℕ, zero, suc, ◌+◌, ◌-◌, ◌/◌, ◌%◌, ◌<◌, ◌≡◌}
use Rattle.wire.specs.Tests.{if_le}
use Rattle.wire.specs.Sums.{sum_to}
use Rattle.dates.specs.declared.Date.{Date}
use Rattle.dates.specs.declared.calendar.Fall.{Fall}
use Rattle.dates.specs.Calendar.{year_span, month_days}

-- of spans of f 0, f 1, .. days one after another, day n falls in this one, so long since its start
pub record FallsIn (f : ℕ → ℕ) (n : ℕ) (w : Fall) : Type 0 where
  pub start : sum_to f w.span + w.since ≡ n
  pub inside : w.since < f w.span

-- how many of the first k spans are over by day n
unfoldable pub spans_over : (ℕ → ℕ) → ℕ → ℕ → ℕ
spans_over f zero n = 0
spans_over f (suc k) n = if_le (sum_to f (suc k)) n (suc k) (spans_over f k n)

-- where day n falls, if not past the first k + 1 spans
unfoldable pub fall_of : (ℕ → ℕ) → ℕ → ℕ → Fall
fall_of f k n = record { span = spans_over f k n; since = n - sum_to f (spans_over f k n) }

-- n days hold at most n / 365 years
unfoldable pub year_fall : ℕ → Fall
year_fall n = fall_of year_span (n / 365) n

-- month 12 at the latest
unfoldable pub month_fall : ℕ → ℕ → Fall
month_fall y n = fall_of (month_days y) 12 n

-- of a year, where the day falls in its months, and the seconds of that day
abbrev pub date_from : ℕ → Fall → ℕ → Date
date_from y m s = record { year = y; month = m.span; day = 1 + m.since; hour = s / 3600; minute = s / 60 % 60; second = s % 60 }

-- of where the day falls in the years, and the seconds of that day
abbrev pub date_in : Fall → ℕ → Date
date_in y s = date_from (1904 + y.span) (month_fall (1904 + y.span) y.since) s

unfoldable pub date_of : ℕ → Date
date_of t = date_in (year_fall (t / 86400)) (t % 86400)
