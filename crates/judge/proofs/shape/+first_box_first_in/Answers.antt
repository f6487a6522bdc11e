use Rattle.boxes.proofs.Walking.{ran, ended, broke}
use Rattle.boxes.specs.Walk.{box_at}
use Rattle.judge.proofs.Answers.{box_leaf, box_node, judge_shallow}
use Rattle.judge.proofs.Empty.{box_empty}
use Rattle.judge.proofs.Numbers.{number_as, number_fine, number_whole}
use Rattle.judge.proofs.Shapes.{first_broken, box_unformed, box_formed, first_unshaped, first_begins, end_tiled, end_other, end_torn}
use Rattle.judge.specs.Asked.{first_by, as_number}
use Rattle.rule.proofs.Places.{sooner_none, unless_yea}
use Rattle.rule.proofs.Traverse.{found_more}
use lib.ListN.{length-take, length-drop}
use mathlib.Core.Path.{refl, sym, ap, ◌∙◌}
use native.Mathlib.Omega.{arith}
use Rattle.judge.proofs.shape.+first_box_first_in.Goals as goal
use Rattle.rule.specs.Verdict.{Fine}

pub first_box-returns-then-not-formed : goal.first_box-returns-then-not-formed
first_box-returns-then-not-formed t c = let a = c.args in
    ap as_number (box_unformed a.n _ a.k (box_at a.part.now a.b) _ (sym c.formed.ensures ∙ c.if-not-formed.true))

pub first_box-returns-then-idle : goal.first_box-returns-then-idle
first_box-returns-then-idle t c = let a = c.args in
    let f = sym c.formed.ensures ∙ c.if-not-formed.false in
    let i = c.idle.ensures c.if-idle.true in
    ap as_number (box_formed a.n _ a.k (box_at a.part.now a.b) _ f (box_empty a.n _ a.k a.part.now a.b _ i.0 i.1))

pub first_box-returns-then-kind-eq0 : goal.first_box-returns-then-kind-eq0
first_box-returns-then-kind-eq0 t c = let a = c.args in
    let f = sym c.formed.ensures ∙ c.if-not-formed.false in
    ap as_number (box_formed a.n _ a.k (box_at a.part.now a.b) _ f (box_leaf (first_by a.n) _ _ (box_at a.part.now a.b) _ c.requires.0 c.kind_in-kind.ensures c.if-kind-eq0.true (unless_yea _ _ refl)))

pub first_box-first_in-requires : goal.first_box-first_in-requires
first_box-first_in-requires t c = (omega arith, (omega arith, rw (c.body.ensures, length-take, length-drop) (omega arith)))

pub first_box-returns : goal.first_box-returns
first_box-returns t c = let a = c.args in
    let f = sym c.formed.ensures ∙ c.if-not-formed.false in
    number_as (rw c.body.ensures at c.first_in.ensures)
    (box_formed a.n _ a.k (box_at a.part.now a.b) _ f (box_node (first_by a.n) _ _ (box_at a.part.now a.b) _ c.requires.0 c.kind_in-kind.ensures c.if-kind-eq0.false refl))

pub first_in-returns-then-depth-eq0 : goal.first_in-returns-then-depth-eq0
first_in-returns-then-depth-eq0 t c = ap as_number (judge_shallow _ _ _ _ _ _ c.if-depth-eq0.true)

pub first_in-returns-then-not-shaped : goal.first_in-returns-then-not-shaped
first_in-returns-then-not-shaped t c = ap as_number (first_unshaped _ _ _ _ _ _ c.if-depth-eq0.false (omega arith) (sym c.shaped.ensures ∙ c.if-not-shaped.true))

pub first_in-loop-b-init : goal.first_in-loop-b-init
first_in-loop-b-init t c = (first_begins _ _ _ _ _ _ c.if-depth-eq0.false (sym c.shaped.ensures ∙ c.if-not-shaped.false), refl)

pub first_in-first_box-found-requires : goal.first_in-first_box-found-requires
first_in-first_box-found-requires t c = let s = ran _ _ _ _ _ c.step.ensures c.in-Found.is in (omega arith, (s.head, s.least, omega arith, omega arith, omega arith))

pub first_in-returns-then-found-ne0 : goal.first_in-returns-then-found-ne0
first_in-returns-then-found-ne0 t c = let s = ran _ _ _ _ _ c.step.ensures c.in-Found.is in
    let i = c.loop-b.invariant in
    number_whole _ c.first_box-found.ensures c.if-found-ne0.true (λ p e. first_broken _ _ _ i.0 s refl e)

pub first_in-loop-b-smaller : goal.first_in-loop-b-smaller
first_in-loop-b-smaller t c = let s = ran _ _ _ _ _ c.step.ensures c.in-Found.is in omega arith

pub first_in-loop-b-preserved : goal.first_in-loop-b-preserved
first_in-loop-b-preserved t c = let s = ran _ _ _ _ _ c.step.ensures c.in-Found.is in
    let i = c.loop-b.invariant in
    (found_more _ _ _ _ i.0 s (number_fine _ c.first_box-found.ensures (omega arith)) (sym (sooner_none Fine)), i.1 ∙ s.rest)

pub first_in-returns-in-End : goal.first_in-returns-in-End
first_in-returns-in-End t c = let i = c.loop-b.invariant in
    let o = ended _ _ _ c.step.ensures c.in-End.is in
    ap as_number (end_tiled _ _ i.0 i.1 o.0 o.1)

pub first_in-overflow_add-result-then-n-eq2 : goal.first_in-overflow_add-result-then-n-eq2
first_in-overflow_add-result-then-n-eq2 t c = let o = broke _ _ _ _ c.step.ensures c.in-Broken.is in omega arith

pub first_in-overflow_add-result-then-n-eq2-2 : goal.first_in-overflow_add-result-then-n-eq2-2
first_in-overflow_add-result-then-n-eq2-2 t c = let o = broke _ _ _ _ c.step.ensures c.in-Broken.is in omega arith

pub first_in-returns-then-n-eq2 : goal.first_in-returns-then-n-eq2
first_in-returns-then-n-eq2 t c = let i = c.loop-b.invariant in
    let o = broke _ _ _ _ c.step.ensures c.in-Broken.is in
    ap as_number (end_torn _ _ i.0 i.1 o.0 o.1 o.2 c.if-n-eq2.true)

pub first_in-returns-in-Broken : goal.first_in-returns-in-Broken
first_in-returns-in-Broken t c = let i = c.loop-b.invariant in
    let o = broke _ _ _ _ c.step.ensures c.in-Broken.is in
    ap as_number (end_other _ _ i.0 i.1 o.0 c.if-n-eq2.false)
