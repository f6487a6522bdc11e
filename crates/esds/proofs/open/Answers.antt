-- The judgement first.
use mathlib.Core.Path.{refl}
use Rattle.rule.proofs.SameRefusal.{passed_on}
use Rattle.judge.specs.Calls.{when_accepted}
use Rattle.judge.proofs.Calls.{met, when_accepted_lem}
use Rattle.esds.specs.Calls.{esds_read}
use Rattle.esds.proofs.open.Goals as goal

pub open_in-requires : goal.open_in-requires
unfolding esds_read
open_in-requires c = (met _ c.judge.ensures c.in_ok-judge.was).most

pub returns : goal.returns
unfolding esds_read
returns c = when_accepted_lem _ c.judge.ensures _ _ c.in_ok-judge.was c.open_in.ensures

pub returns-in_err-judge : goal.returns-in_err-judge
unfolding esds_read when_accepted
returns-in_err-judge c = rw (passed_on c.from_residual.result c.from_residual.ensures.1, ← c.judge.ensures, c.in_err-judge.was) refl
