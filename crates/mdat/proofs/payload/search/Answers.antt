use Rattle.boxes.proofs.Walking.{ran, ended, broke}
use Rattle.boxes.proofs.PlainWalking.{plain_ran, plain_ended}
use Rattle.mdat.proofs.Searching.{start_held, start_over}
use Rattle.mdat.proofs.Starts.{start_past}
use native.Mathlib.Omega.{arith}
use Rattle.mdat.proofs.payload.search.Goals as goal
use Rattle.mdat.proofs.payload.search.Goals.{in-Found+else-offset-at, in-Broken+in-Found-step+else-offset-at-2}

pub loop-i-init : goal.loop-i-init
loop-i-init c = (c.requires, omega arith, omega arith)

pub past-at-requires : goal.past-at-requires
past-at-requires c = let s = (plain_ran _ _ _ _ _ c.plain_step.ensures c.in-Found.is).0 in omega arith

pub held-requires : goal.held-requires
held-requires c = let s = (plain_ran _ _ _ _ _ c.plain_step.ensures c.in-Found.is).0 in
    (omega arith, omega arith)

pub returns-then-offset-at : goal.returns-then-offset-at
returns-then-offset-at c = let s = (plain_ran _ _ _ _ _ c.plain_step.ensures c.in-Found.is).0 in
    rw c.held.ensures (start_held c.loop-i.invariant.0 s _ _ (omega arith))

pub returns-in-End : goal.returns-in-End
returns-in-End c = record { says = start_over c.loop-i.invariant.0 (plain_ended _ _ _ c.plain_step.ensures c.in-End.is).0 _ }

pub past-at-requires-in-Found-step : goal.past-at-requires-in-Found-step
past-at-requires-in-Found-step c = let s = ran _ _ _ _ _ c.step.ensures c.in-Found-step.is in omega arith

pub held-requires-then-offset-at-2 : goal.held-requires-then-offset-at-2
held-requires-then-offset-at-2 c = let s = ran _ _ _ _ _ c.step.ensures c.in-Found-step.is in
    (omega arith, omega arith)

pub returns-then-offset-at-2 : goal.returns-then-offset-at-2
returns-then-offset-at-2 c = let s = ran _ _ _ _ _ c.step.ensures c.in-Found-step.is in
    rw c.held-then-offset-at-2.ensures (start_held c.loop-i.invariant.0 s _ _ (omega arith))

pub loop-i-preserved : goal.loop-i-preserved
loop-i-preserved c =
    elim c.match-plain_step.branch [
      | in-Found+else-offset-at w ↦
          let s = (plain_ran _ _ _ _ _ c.plain_step.ensures w.in-Found.is).0 in
          rw w.at-is (start_past c.loop-i.invariant.0 s w.past-at.ensures (omega (arith, w.if-offset-at.false)), omega (arith, w.past-at.ensures), omega arith)
      | in-Broken+in-Found-step+else-offset-at-2 w ↦
          let s = ran _ _ _ _ _ w.step.ensures w.in-Found-step.is in
          rw w.at-is (start_past c.loop-i.invariant.0 s w.past-at-in-Found-step.ensures (omega (arith, w.if-offset-at-2.false)), omega (arith, w.past-at-in-Found-step.ensures), omega arith)
    ]

pub returns-in-End-step : goal.returns-in-End-step
returns-in-End-step c = record { says = start_over c.loop-i.invariant.0 (ended _ _ _ c.step.ensures c.in-End-step.is).0 _ }

pub returns-in-Broken-step : goal.returns-in-Broken-step
returns-in-Broken-step c = record { says = start_over c.loop-i.invariant.0 (broke _ _ _ _ c.step.ensures c.in-Broken-step.is).0 _ }

pub returns : goal.returns
returns c = record { says = omega arith }
