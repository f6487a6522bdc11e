use Rattle.wire.proofs.Sums.{sum_more}
use Rattle.dates.specs.Calendar.{month_days}
use Rattle.dates.proofs.Years.{january, months_none, month_next}
use native.Mathlib.Omega.{arith}
use Rattle.dates.proofs.calendar.fall_in_months.Goals as goal

pub loop-days-init : goal.loop-days-init
loop-days-init c = (january c.args.y, rw months_none (omega arith), omega arith)

pub month_days-days-requires : goal.month_days-days-requires
month_days-days-requires c = month_next _ c.loop-days.m _ c.requires (omega arith)

pub loop-days-preserved : goal.loop-days-preserved
loop-days-preserved c =
    let a = c.args in
    let m = c.loop-days.m in
    (c.month_days-days.ensures, omega (arith, sum_more (month_days a.y) m), month_next a.y m a.n (omega arith) (omega arith))

pub returns : goal.returns
returns c = record { start = omega arith; inside = omega arith }
