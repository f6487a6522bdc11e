use Prim.Native.Nat.{◌+◌}
use Rattle.wire.proofs.Sums.{sum_none, sum_more}
use Rattle.dates.specs.Calendar.{year_span}
use Rattle.dates.proofs.Years.{year_first, year_is}
use native.Mathlib.Omega.{arith}
use Rattle.dates.proofs.calendar.fall_in_years.Goals as goal

pub loop-days-init : goal.loop-days-init
loop-days-init c = (year_first, omega arith, omega (arith, sum_none year_span), omega arith)

pub loop-days-preserved : goal.loop-days-preserved
loop-days-preserved c =
    let i = c.loop-days.i in
    (year_is (i + 1) _ c.leap_days-days.ensures.0, omega arith, omega (arith, sum_more year_span i), omega arith)

pub returns : goal.returns
returns c = (record { start = omega arith; inside = omega arith }, omega arith)
