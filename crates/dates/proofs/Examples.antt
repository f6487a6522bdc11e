-- Dates that are known. Assumes nothing.
use mathlib.Core.Path.{◌≡◌, refl}
use Rattle.wire.specs.Tests.{if_eq, if_le}
use Rattle.wire.specs.Sums.{sum_to}
use Rattle.wire.specs.Text.{text}
use Rattle.dates.specs.Calendar.{leap_days, year_days, month_days, year_span}
use Rattle.dates.specs.Dates.{spans_over, fall_of, year_fall, month_fall, date_of}
use Rattle.dates.specs.DateText.{day_text, clock_text, date_text, time_text}

-- the first second, the first of 1970, the last of a leap day, and the last that a file can hold
known :
    (date_of 0 ≡ record { year = 1904; month = 1; day = 1; hour = 0; minute = 0; second = 0 })
    × (date_of 2082844800 ≡ record { year = 1970; month = 1; day = 1; hour = 0; minute = 0; second = 0 })
    × (date_of 3034713599 ≡ record { year = 2000; month = 2; day = 29; hour = 23; minute = 59; second = 59 })
    × (date_of 4294967295 ≡ record { year = 2040; month = 2; day = 6; hour = 6; minute = 28; second = 15 })
unfolding date_of year_fall month_fall fall_of spans_over sum_to year_span year_days month_days leap_days if_eq if_le
known = (refl, refl, refl, refl)

printed : time_text 3877596309 ≡ text "2026-11-15 14:05:09"
unfolding time_text date_text day_text clock_text date_of year_fall month_fall fall_of spans_over sum_to year_span year_days month_days leap_days if_eq if_le
printed = refl

no_time : time_text 0 ≡ text "no time"
unfolding time_text if_eq
no_time = refl
