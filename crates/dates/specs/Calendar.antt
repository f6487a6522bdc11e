-- The Gregorian calendar since the start of 1904, in universal time, with no leap seconds.
use Rattle.std.specs.Prelude.{ℕ, ◌+◌, ◌-◌, ◌*◌, ◌%◌, ◌≤◌, ◌<◌, [], ◌∷◌, get_or}
use Rattle.wire.specs.Tests.{if_eq}
use Rattle.wire.specs.Sums.{sum_to}
use Rattle.dates.specs.declared.Date.{Date}

-- one where 4 divides the year, but 100 does not unless 400 does
unfoldable pub leap_days : ℕ → ℕ
leap_days y = if_eq (y % 4) 0 (if_eq (y % 100) 0 (if_eq (y % 400) 0 1 0) 1) 0

unfoldable pub year_days : ℕ → ℕ
year_days y = 365 + leap_days y

-- months are counted from 1: month 0 has no day
unfoldable pub month_days : ℕ → ℕ → ℕ
month_days y m = get_or (0 ∷ 31 ∷ (28 + leap_days y) ∷ 31 ∷ 30 ∷ 31 ∷ 30 ∷ 31 ∷ 31 ∷ 30 ∷ 31 ∷ 30 ∷ 31 ∷ []) m 0

-- the days of the year that is i after 1904
unfoldable pub year_span : ℕ → ℕ
year_span i = year_days (1904 + i)

-- the days of the years from 1904 on that are before y
unfoldable pub days_to_year : ℕ → ℕ
days_to_year y = sum_to year_span (y - 1904)

-- the days of the months of year y that are before m
unfoldable pub days_to_month : ℕ → ℕ → ℕ
days_to_month y m = sum_to (month_days y) m

-- a day of the calendar from 1904 on, and a time of that day
pub record Valid (d : Date) : Type 0 where
  pub year : 1904 ≤ d.year
  pub month : (1 ≤ d.month) × (d.month ≤ 12)
  pub day : (1 ≤ d.day) × (d.day ≤ month_days d.year d.month)
  pub hour : d.hour < 24
  pub minute : d.minute < 60
  pub second : d.second < 60

-- days and seconds since 1904-01-01 00:00:00
unfoldable pub days_to : Date → ℕ
days_to d = days_to_year d.year + days_to_month d.year d.month + (d.day - 1)

unfoldable pub seconds_to : Date → ℕ
seconds_to d = 86400 * days_to d + 3600 * d.hour + 60 * d.minute + d.second
