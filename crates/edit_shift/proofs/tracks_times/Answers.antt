use Rattle.boxes.proofs.Walking.{ran, ended, broke}
use Rattle.edit_shift.proofs.Asking.{timely_none, timely_more, timely_bad, timely_all}
use native.Mathlib.Omega.{arith}
use Rattle.edit_shift.proofs.tracks_times.Goals as goal

pub loop-b-init : goal.loop-b-init
loop-b-init c = timely_none _

pub body-requires : goal.body-requires
body-requires c = let s = ran _ _ _ _ _ c.step.ensures c.in-Found.is in (s.least, omega arith)

pub returns-then-not-box_times : goal.returns-then-not-box_times
returns-then-not-box_times c = timely_bad _ c.loop-b.invariant (λ i. (c.type_inv.moov i).fits) (ran _ _ _ _ _ c.step.ensures c.in-Found.is) c.body.ensures c.box_times.ensures c.if-not-box_times.true

pub loop-b-smaller : goal.loop-b-smaller
loop-b-smaller c = let s = ran _ _ _ _ _ c.step.ensures c.in-Found.is in omega arith

pub loop-b-preserved : goal.loop-b-preserved
loop-b-preserved c = timely_more _ c.loop-b.invariant (λ i. (c.type_inv.moov i).fits) (ran _ _ _ _ _ c.step.ensures c.in-Found.is) c.body.ensures c.box_times.ensures c.if-not-box_times.false

pub returns-in-End : goal.returns-in-End
returns-in-End c = timely_all _ c.loop-b.invariant (ended _ _ _ c.step.ensures c.in-End.is).0

pub returns-in-Broken : goal.returns-in-Broken
returns-in-Broken c = timely_all _ c.loop-b.invariant (broke _ _ _ _ c.step.ensures c.in-Broken.is).0
