use Rattle.boxes.proofs.Seeking.{passed_none, passed_more, passed_cut, passed_over}
use Rattle.boxes.proofs.Walking.{ran, ended, broke}
use native.Mathlib.Omega.{arith}
use Rattle.boxes.proofs.seek.nth.Goals as goal

pub loop-b-init : goal.loop-b-init
loop-b-init c = (passed_none _ _, omega arith)

pub overflow_add-m : goal.overflow_add-m
overflow_add-m c = let i = c.loop-b.invariant.0 in omega arith

pub returns-then-n-m : goal.returns-then-n-m
returns-then-n-m c = let s = ran _ _ _ _ _ c.step.ensures c.in-Found.is in
    passed_cut c.loop-b.invariant.0 (λ i. (c.type_inv.part i).fits) s (omega arith) c.loop-b.invariant.1 c.if-n-m.true

pub loop-b-smaller : goal.loop-b-smaller
loop-b-smaller c = let s = ran _ _ _ _ _ c.step.ensures c.in-Found.is in
    omega arith

pub loop-b-preserved : goal.loop-b-preserved
loop-b-preserved c = let s = ran _ _ _ _ _ c.step.ensures c.in-Found.is in
    (passed_more c.loop-b.invariant.0 (λ i. (c.type_inv.part i).fits) s (omega arith), omega arith)

pub returns-in-End : goal.returns-in-End
returns-in-End c = passed_over c.loop-b.invariant.0 (ended _ _ _ c.step.ensures c.in-End.is).0 c.loop-b.invariant.1

pub returns-in-Broken : goal.returns-in-Broken
returns-in-Broken c = passed_over c.loop-b.invariant.0 (broke _ _ _ _ c.step.ensures c.in-Broken.is).0 c.loop-b.invariant.1
