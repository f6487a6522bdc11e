-- A day falls in a year, and in a month of that year. Assumes nothing.
use Prim.Native.Nat.{ℕ, zero, suc, ◌+◌, ◌*◌, ◌/◌, ◌≤◌, ◌<◌}
use native.Mathlib.Omega.{arith}
use mathlib.Core.Path.{◌≡◌, refl}
use mathlib.Core.List.{[], ◌∷◌}
use lib.ListN.{get_or}
use Rattle.wire.specs.Tests.{if_eq}
use Rattle.wire.specs.Sums.{sum_to}
use Rattle.wire.proofs.Sums.{sum_more}
use Rattle.dates.specs.declared.calendar.Fall.{Fall}
use Rattle.dates.specs.Calendar.{leap_days, year_days, month_days, year_span}
use Rattle.dates.specs.Dates.{FallsIn, year_fall, month_fall}
use Rattle.dates.proofs.Spans.{sum_within, over_falls, falls_below}

pub year_is : (i r : ℕ) → r ≡ leap_days (1904 + i) → 365 + r ≡ year_span i
unfolding year_span year_days
year_is i r e = rw e

pub year_first : 366 ≡ year_span 0
unfolding year_span year_days leap_days if_eq
year_first = refl

-- a year has at least 365 days
years_least : (k : ℕ) → 365 * k ≤ sum_to year_span k
unfolding sum_to year_span year_days
years_least zero = omega arith
years_least (suc k) = omega (arith, years_least k)

pub year_falls : (n : ℕ) → FallsIn year_span n (year_fall n)
unfolding year_fall
year_falls n = over_falls year_span (n / 365) n (omega (arith, years_least (suc (n / 365))))

pub year_short : {n : ℕ} {w : Fall} → FallsIn year_span n w → w.since < year_days (1904 + w.span)
unfolding year_span
year_short a = a.inside

-- the 137 years from 1904 to 2040 have more days than there are in 2 ^ 32 seconds
years_2040 : sum_to year_span 137 ≡ 50040
unfolding sum_to year_span year_days leap_days if_eq
years_2040 = refl

pub year_last : (n : ℕ) {w : Fall} → FallsIn year_span n w → n < 50040 → w.span < 137
year_last n {w} a h = sum_within year_span w.span 137 n (omega arith) (rw years_2040 h)

module _ (y : ℕ) where
  pub month_is : (m : ℕ) {r : ℕ} → r ≡ leap_days y → get_or (0 ∷ 31 ∷ (28 + r) ∷ 31 ∷ 30 ∷ 31 ∷ 30 ∷ 31 ∷ 31 ∷ 30 ∷ 31 ∷ 30 ∷ 31 ∷ []) m 0
      ≡ month_days y m
  unfolding month_days
  month_is m e = rw e

  pub january : 31 ≡ month_days y 1
  unfolding month_days
  january = refl

  -- its twelve months are the year
  pub months_all : sum_to (month_days y) 13 ≡ year_days y
  unfolding sum_to month_days year_days
  months_all = omega arith

  -- no day is before the first month
  pub months_none : sum_to (month_days y) 1 ≡ 0
  unfolding sum_to month_days
  months_none = refl

  pub month_falls : (n : ℕ) → n < year_days y → FallsIn (month_days y) n (month_fall y n)
  unfolding month_fall
  month_falls n h = over_falls (month_days y) 12 n (rw months_all h)

  pub month_last : (m n : ℕ) → n < year_days y → sum_to (month_days y) m ≤ n → m < 13
  month_last m n h l = sum_within (month_days y) m 13 n l (rw months_all h)

  -- a month that is over is not the last
  pub month_next : (m n : ℕ) → n < year_days y → sum_to (month_days y) m + month_days y m ≤ n → m + 1 < 13
  month_next m n h l = month_last (m + 1) n h (rw (sum_more (month_days y) m) l)

  pub month_first : {n : ℕ} {w : Fall} → FallsIn (month_days y) n w → 1 ≤ w.span
  month_first {n} {w} a = omega (arith, sum_within (month_days y) 1 (w.span + 1) n (rw months_none (omega arith)) (falls_below (month_days y) a))
