-- Four numbers, one after the other.
use mathlib.Core.Path.{refl}
use mathlib.Core.List.{[], ◌∷◌}
use native.Mathlib.Omega.{arith}
use lib.ListN.{length-set}
use lib.Seq.{sets-eq}
use Rattle.salvage.proofs.put_report.Goals as goal

pub bounds-report-1 : goal.bounds-report-1
bounds-report-1 c = simp length-set (omega arith)

pub bounds-report-2 : goal.bounds-report-2
bounds-report-2 c = simp length-set (omega arith)

pub bounds-report-3 : goal.bounds-report-3
bounds-report-3 c = simp length-set (omega arith)

pub returns : goal.returns
returns c =
    let a = c.args in
    record { span = refl; is = sets-eq (a.size ∷ a.frames ∷ a.dropped ∷ a.first ∷ []) a.report.now 0 (omega arith) }
