use Rattle.boxes.proofs.Walking.{ran, ended, broke}
use Rattle.rule_entries.proofs.Entry.{entries_none, entries_more, entries_bad, entries_over}
use native.Mathlib.Omega.{arith}
use Rattle.rule_entries.proofs.entries_from.Goals as goal

pub loop-b-init : goal.loop-b-init
loop-b-init c = entries_none _ _ _ _

pub entry_meets-requires : goal.entry_meets-requires
entry_meets-requires c = let s = ran _ _ _ _ _ c.step.ensures c.in-Found.is in (s.least, omega arith)

pub overflow_add-result : goal.overflow_add-result
overflow_add-result c = let s = ran _ _ _ _ _ c.step.ensures c.in-Found.is in omega arith

pub returns-then-not-entry_meets : goal.returns-then-not-entry_meets
returns-then-not-entry_meets c = entries_bad _ _ c.loop-b.invariant (λ i. (c.type_inv.list i).fits) (ran _ _ _ _ _ c.step.ensures c.in-Found.is)
    c.entry_meets.ensures c.if-not-entry_meets.true

pub loop-b-smaller : goal.loop-b-smaller
loop-b-smaller c = let s = ran _ _ _ _ _ c.step.ensures c.in-Found.is in omega arith

pub loop-b-preserved : goal.loop-b-preserved
loop-b-preserved c = entries_more _ _ c.loop-b.invariant (λ i. (c.type_inv.list i).fits) (ran _ _ _ _ _ c.step.ensures c.in-Found.is)
    c.entry_meets.ensures c.if-not-entry_meets.false

pub returns-in-End : goal.returns-in-End
returns-in-End c = entries_over _ _ c.loop-b.invariant (ended _ _ _ c.step.ensures c.in-End.is).0

pub returns-in-Broken : goal.returns-in-Broken
returns-in-Broken c = entries_over _ _ c.loop-b.invariant (broke _ _ _ _ c.step.ensures c.in-Broken.is).0
