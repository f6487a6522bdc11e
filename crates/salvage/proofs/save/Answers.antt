-- 24, 25 of either room, or the file and the report are written.
use native.Mathlib.Omega.{arith}
use mathlib.Core.Path.{refl}
use Rattle.salvage.proofs.Saving.{long_as, over, no_report, no_room, saved, put_asks, put_are, report_are}
use Rattle.salvage.proofs.save.Goals as goal

pub returns-then-n-gt-LONGEST : goal.returns-then-n-gt-LONGEST
returns-then-n-gt-LONGEST c =
    let p = c.requires in
    let e = long_as p c.start.ensures.0 refl in
    over p _ _ (omega arith)

pub returns-then-report-lt4 : goal.returns-then-report-lt4
returns-then-report-lt4 c =
    let p = c.requires in
    let e = long_as p c.start.ensures.0 refl in
    no_report p _ _ (omega arith) (omega arith)

pub returns-then-out-n : goal.returns-then-out-n
returns-then-out-n c =
    let p = c.requires in
    let e = long_as p c.start.ensures.0 refl in
    no_room p _ _ (omega arith) (omega arith) (omega arith)

pub put-requires : goal.put-requires
put-requires c = put_asks c.requires refl

pub returns : goal.returns
returns c =
    let p = c.requires in
    let e = long_as p c.start.ensures.0 refl in
    let file = put_are p refl c.put.ensures in
    let report = report_are p c.word32-size.ensures.0 c.put_report.ensures in
    saved p _ _ (omega (arith, c.if-n-gt-LONGEST.false)) (omega (arith, c.if-report-lt4.false)) (omega (arith, c.if-out-n.false)) e file report
