use Rattle.boxes.proofs.Editing.{edit_leaf, edit_node, edit_shallow, edit_deep, box_length}
use Rattle.boxes.proofs.InPlace.{in_body_lem, looped_none, looped_last, looped_more}
use Rattle.boxes.proofs.Walking.{ran, ended, broke}
use Rattle.boxes.proofs.Aiming.{each_by, each_length}
use Rattle.boxes.specs.Rewrite.{in_body}
use mathlib.Core.Path.{ap, ◌∙◌}
use native.Mathlib.Omega.{arith}
use Rattle.boxes.proofs.words.+reword_box_reword_in.Goals as goal

pub reword_box-returns-then-kind-eq0 : goal.reword_box-returns-then-kind-eq0
reword_box-returns-then-kind-eq0 t c = let a = c.args in
    in_body_lem a.part.now a.b _ (omega arith) ∙ ap (in_body a.part.now a.b) (edit_leaf _ _ _ _ _ c.kind_in-kind.ensures c.if-kind-eq0.true (each_by a.ts _ a.k _ _ c.requires.4 c.reword_leaf.ensures))

pub reword_box-returns : goal.reword_box-returns
reword_box-returns t c = let a = c.args in
    in_body_lem a.part.now a.b _ (omega arith) ∙ ap (in_body a.part.now a.b) (edit_node _ _ _ _ _ c.kind_in-kind.ensures c.if-kind-eq0.false c.reword_in.ensures)

pub reword_in-returns-then-depth-eq0 : goal.reword_in-returns-then-depth-eq0
reword_in-returns-then-depth-eq0 t c = edit_shallow _ _ _ _ c.if-depth-eq0.true

pub reword_in-loop-b-init : goal.reword_in-loop-b-init
reword_in-loop-b-init t c = (looped_none _ _, λ i. (c.type_inv.part i).fits)

pub reword_in-reword_box-requires : goal.reword_in-reword_box-requires
reword_in-reword_box-requires t c = let s = ran _ _ _ _ _ c.step.ensures c.in-Found.is in (omega arith, (s.least, omega arith, omega arith, c.requires, c.target_in-t.ensures))

pub reword_in-loop-b-smaller : goal.reword_in-loop-b-smaller
reword_in-loop-b-smaller t c = let s = ran _ _ _ _ _ c.step.ensures c.in-Found.is in omega arith

pub reword_in-loop-b-preserved : goal.reword_in-loop-b-preserved
reword_in-loop-b-preserved t c = let s = ran _ _ _ _ _ c.step.ensures c.in-Found.is in
    let i = c.loop-b.invariant in
    (looped_more _ i.0 (box_length _ (each_length _ _) _ _) i.1 s c.reword_box.ensures, λ j. (c.type_inv.part j).fits)

pub reword_in-returns-in-End : goal.reword_in-returns-in-End
reword_in-returns-in-End t c = looped_last _ c.loop-b.invariant.0 (ended _ _ _ c.step.ensures c.in-End.is).0 ∙ edit_deep _ _ _ _ c.if-depth-eq0.false

pub reword_in-returns-in-Broken : goal.reword_in-returns-in-Broken
reword_in-returns-in-Broken t c = looped_last _ c.loop-b.invariant.0 (broke _ _ _ _ c.step.ensures c.in-Broken.is).0 ∙ edit_deep _ _ _ _ c.if-depth-eq0.false
