-- The date of a time is valid and is so many seconds after 1904, and it is the only one. Assumes nothing.
use Prim.Native.Nat.{ℕ, ◌+◌, ◌-◌, ◌/◌, ◌%◌, ◌^◌, ◌≤◌, ◌<◌}
use native.Mathlib.Omega.{arith}
use mathlib.Core.Path.{◌≡◌, refl, sym, ◌∙◌}
use Rattle.wire.proofs.Sums.{sum_more, sum_mono}
use Rattle.dates.specs.declared.Date.{Date}
use Rattle.dates.specs.declared.calendar.Fall.{Fall}
use Rattle.dates.specs.Calendar.{year_days, month_days, year_span, days_to_year, days_to_month, Valid, days_to, seconds_to}
use Rattle.dates.specs.Dates.{FallsIn, year_fall, month_fall, date_from, date_of}
use Rattle.dates.proofs.Spans.{falls_once}
use Rattle.dates.proofs.Years.{year_falls, year_short, year_last, months_all, month_falls, month_last, month_first}

-- a date that is made of where its day falls
pub date_is : (t : ℕ) {w v : Fall} → FallsIn year_span (t / 86400) w → FallsIn (month_days (1904 + w.span)) w.since v
    → date_from (1904 + w.span) v (t % 86400) ≡ date_of t
unfolding date_of
date_is t {w} {v} a b =
    let e : w ≡ year_fall (t / 86400) = falls_once year_span a (year_falls (t / 86400)) in
    let y = 1904 + w.span in
    let g : v ≡ month_fall y w.since = falls_once (month_days y) b (month_falls y w.since (year_short a)) in
    rw (← e, ← g)

module _ (t : ℕ) where
  abbrev the_year : Fall
  the_year = year_fall (t / 86400)

  abbrev the_month : Fall
  the_month = month_fall (1904 + the_year.span) the_year.since

  in_year : FallsIn year_span (t / 86400) the_year
  in_year = year_falls (t / 86400)

  in_month : FallsIn (month_days (1904 + the_year.span)) the_year.since the_month
  in_month = month_falls (1904 + the_year.span) the_year.since (year_short in_year)

  pub date_valid : Valid (date_of t)
  unfolding date_of
  date_valid =
      let b = in_month in
      let l = month_last (1904 + the_year.span) the_month.span the_year.since (year_short in_year) (omega arith) in
      record {
        year = omega arith;
        month = (month_first (1904 + the_year.span) b, omega arith);
        day = (omega arith, omega arith);
        hour = omega arith;
        minute = omega arith;
        second = omega arith;
      }

  pub date_back : seconds_to (date_of t) ≡ t
  unfolding seconds_to days_to days_to_year days_to_month date_of
  date_back =
      let e : 1904 + the_year.span - 1904 ≡ the_year.span = omega arith in
      rw e (omega (arith, in_year.start, in_month.start))

  -- so its year has four digits
  pub date_last : t < 2 ^ 32 → (date_of t).year ≤ 2040
  unfolding date_of
  date_last h = omega (arith, year_last (t / 86400) in_year (omega arith))

-- ---- and back

same_date : (d : Date) {y a h i s : ℕ} → y ≡ d.year → a ≡ d.day → h ≡ d.hour → i ≡ d.minute → s ≡ d.second
    → ◌≡◌ {A = Date} (record { year = y; month = d.month; day = a; hour = h; minute = i; second = s }) d
same_date d e f g p q = rw (e, f, g, p, q)

module _ (d : Date) (v : Valid d) where
  month_whole : days_to_month d.year d.month + (d.day - 1) < year_days d.year
  unfolding days_to_month
  month_whole =
      let y = d.year in
      let m = d.month in
      rw (← months_all y) (omega (arith, sum_more (month_days y) m, sum_mono (month_days y) (m + 1) 13 (omega arith)))

  again : 1904 + (d.year - 1904) ≡ d.year
  again = omega arith

  -- its day falls in its year and in its month
  in_its_year : FallsIn year_span (seconds_to d / 86400) (record { span = d.year - 1904; since = days_to_month d.year d.month + (d.day - 1) })
  unfolding seconds_to days_to days_to_year year_span
  in_its_year = record { start = omega arith; inside = rw again month_whole }

  in_its_month : FallsIn (month_days (1904 + (d.year - 1904))) (days_to_month d.year d.month + (d.day - 1))
      (record { span = d.month; since = d.day - 1 })
  unfolding days_to_month
  in_its_month = rw again (record { start = refl; inside = omega arith })

  pub date_of_seconds : date_of (seconds_to d) ≡ d
  unfolding seconds_to
  date_of_seconds = sym (date_is (seconds_to d) in_its_year in_its_month) ∙ same_date d again (omega arith) (omega arith) (omega arith) (omega arith)
