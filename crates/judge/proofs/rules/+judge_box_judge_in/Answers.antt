use Rattle.boxes.proofs.Walking.{ran, ended, broke}
use Rattle.boxes.specs.Boxes.{boxes}
use Rattle.judge.proofs.Answers.{box_leaf, box_node, judge_shallow, judge_start, end_passed}
use Rattle.judge.specs.Asked.{rule_by}
use Rattle.rule.proofs.Traverse.{found_more}
use lib.ListN.{length-take, length-drop}
use native.Mathlib.Omega.{arith}
use mathlib.Core.Path.{sym, ap, ◌∙◌}
use Rattle.rule.specs.Verdict.{sooner}
use Rattle.rule.proofs.Places.{sooner_none}
use Rattle.judge.proofs.rules.+judge_box_judge_in.Goals as goal

pub judge_box-leaf_by-requires : goal.judge_box-leaf_by-requires
judge_box-leaf_by-requires t c = rw (c.body.ensures, length-take, length-drop) (omega arith)

pub judge_box-returns-then-kind-eq0 : goal.judge_box-returns-then-kind-eq0
judge_box-returns-then-kind-eq0 t c = let a = c.args in box_leaf (rule_by a.n (boxes a.file.now)) _ _ _ _ c.requires.0 c.kind_in-kind.ensures c.if-kind-eq0.true (rw c.body.ensures at c.leaf_by.ensures)

pub judge_box-judge_in-requires : goal.judge_box-judge_in-requires
judge_box-judge_in-requires t c = (omega arith, rw (c.body-2.ensures, length-take, length-drop) (omega arith))

pub judge_box-returns : goal.judge_box-returns
judge_box-returns t c = let a = c.args in box_node (rule_by a.n (boxes a.file.now)) _ _ _ _ c.requires.0 c.kind_in-kind.ensures c.if-kind-eq0.false (rw c.body-2.ensures at c.judge_in.ensures)

pub judge_in-returns-then-depth-eq0 : goal.judge_in-returns-then-depth-eq0
judge_in-returns-then-depth-eq0 t c = judge_shallow _ _ _ _ _ _ c.if-depth-eq0.true

pub judge_in-loop-b-init : goal.judge_in-loop-b-init
judge_in-loop-b-init t c = judge_start _ _ _ _ _ _ c.if-depth-eq0.false c.node_by-found.ensures

pub judge_in-judge_box-requires : goal.judge_in-judge_box-requires
judge_in-judge_box-requires t c = let s = ran _ _ _ _ _ c.step.ensures c.in-Found.is in (omega arith, (s.head, s.least, omega arith, omega arith, omega arith))

pub judge_in-loop-b-smaller-in-Ok : goal.judge_in-loop-b-smaller-in-Ok
judge_in-loop-b-smaller-in-Ok t c = let s = ran _ _ _ _ _ c.step.ensures c.in-Found.is in omega arith

pub judge_in-loop-b-preserved-in-Ok : goal.judge_in-loop-b-preserved-in-Ok
judge_in-loop-b-preserved-in-Ok t c = found_more _ _ _ _ c.loop-b.invariant (ran _ _ _ _ _ c.step.ensures c.in-Found.is) c.judge_box.ensures
    (sym (sooner_none _) ∙ ap (sooner _) (sym c.in-Ok.is))

pub judge_in-loop-b-smaller : goal.judge_in-loop-b-smaller
judge_in-loop-b-smaller t c = let s = ran _ _ _ _ _ c.step.ensures c.in-Found.is in omega arith

pub judge_in-loop-b-preserved : goal.judge_in-loop-b-preserved
judge_in-loop-b-preserved t c = found_more _ _ _ _ c.loop-b.invariant (ran _ _ _ _ _ c.step.ensures c.in-Found.is) c.judge_box.ensures
    (c.sooner-found.ensures ∙ ap (sooner _) (sym c.in-Err.is))

pub judge_in-returns-in-End : goal.judge_in-returns-in-End
judge_in-returns-in-End t c = end_passed _ c.loop-b.invariant (ended _ _ _ c.step.ensures c.in-End.is).0

pub judge_in-returns-in-Broken : goal.judge_in-returns-in-Broken
judge_in-returns-in-Broken t c = end_passed _ c.loop-b.invariant (broke _ _ _ _ c.step.ensures c.in-Broken.is).0
