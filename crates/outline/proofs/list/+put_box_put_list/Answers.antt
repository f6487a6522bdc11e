use Prim.Native.Nat.{◌+◌}
use mathlib.Core.Path.{refl}
use native.Mathlib.Omega.{arith}
use Rattle.wire.proofs.Writing.{pen_then, pen_is}
use Rattle.wire.proofs.Resting.{rest_more, rest_last, rest_none}
use Rattle.boxes.proofs.Walking.{ran, ended, broke}
use Rattle.outline.specs.Outline.{rounds_at}
use Rattle.outline.proofs.Rounds.{span_size, body_length, box_last, box_shut, box_holds, list_all, list_more, list_open, list_broken, list_end}
use Rattle.outline.proofs.list.+put_box_put_list.Goals as goal

pub put_box-returns-then-depth-eq-DEEPEST : goal.put_box-returns-then-depth-eq-DEEPEST
put_box-returns-then-depth-eq-DEEPEST t c =
    (pen_is (box_last _ 0 _ _ _ _ (omega arith) (span_size c.requires.0) refl) c.put_box-j.ensures.0, omega arith)

pub put_box-returns-then-kind-eq0 : goal.put_box-returns-then-kind-eq0
put_box-returns-then-kind-eq0 t c =
    let e = box_shut _ (rounds_at (c.args.depth + 1)) _ _ _ _ (omega arith) (span_size c.requires.0) c.opens_as-kind.ensures c.if-kind-eq0.true in
    (pen_is e c.put_box-j.ensures.0, omega arith)

pub put_box-put_list-requires : goal.put_box-put_list-requires
put_box-put_list-requires t c =
    let n = body_length c.requires.0 c.body.ensures in
    (omega arith, (omega (arith, n), omega arith, omega (arith, n)))

pub put_box-returns : goal.put_box-returns
put_box-returns t c =
    let i = c.requires.0 in
    let e = box_holds _ _ _ _ _ _ (omega arith) (span_size i) c.opens_as-kind.ensures c.if-kind-eq0.false i.head c.body.ensures in
    (pen_is e (pen_then c.put_box-j.ensures.0 c.put_list.ensures.0), omega (arith, body_length i c.body.ensures))

pub put_list-loop-b-init : goal.put_list-loop-b-init
put_list-loop-b-init t c = (omega arith, list_all _ _ _ _ _ _ _ _ (omega arith), omega arith)

pub put_list-overflow_add-place : goal.put_list-overflow_add-place
put_list-overflow_add-place t c = let s = ran _ _ _ _ _ c.step.ensures c.in-Found.is in omega arith

pub put_list-put_broken-requires : goal.put_list-put_broken-requires
put_list-put_broken-requires t c = let s = ran _ _ _ _ _ c.step.ensures c.in-Found.is in omega arith

pub put_list-returns-then-not-may_have : goal.put_list-returns-then-not-may_have
put_list-returns-then-not-may_have t c =
    let s = ran _ _ _ _ _ c.step.ensures c.in-Found.is in
    let e = list_open _ _ _ _ _ _ s (cc) in
    (rest_last c.loop-b.invariant.1 (pen_is e c.put_broken.ensures.0), omega arith)

pub put_list-put_box-at-requires : goal.put_list-put_box-at-requires
put_list-put_box-at-requires t c =
    let s = ran _ _ _ _ _ c.step.ensures c.in-Found.is in
    (omega arith, (record { head = s.head; eight = s.eight; least = s.least; inside = omega arith }, omega arith, omega arith, omega arith))

pub put_list-loop-b-smaller : goal.put_list-loop-b-smaller
put_list-loop-b-smaller t c =
    let s = ran _ _ _ _ _ c.step.ensures c.in-Found.is in
    omega arith

pub put_list-loop-b-preserved : goal.put_list-loop-b-preserved
put_list-loop-b-preserved t c =
    let s = ran _ _ _ _ _ c.step.ensures c.in-Found.is in
    let e = list_more _ _ _ _ _ _ s (cc) in
    (omega arith, rest_more c.loop-b.invariant.1 e c.put_box-at.ensures.0, omega arith)

pub put_list-returns-in-End : goal.put_list-returns-in-End
put_list-returns-in-End t c =
    let v = ended _ _ _ c.step.ensures c.in-End.is in
    (rest_none c.loop-b.invariant.1 (list_end _ _ _ _ _ _ v.0 v.1), omega arith)

pub put_list-overflow_add-place-in-Broken : goal.put_list-overflow_add-place-in-Broken
put_list-overflow_add-place-in-Broken t c = let v = broke _ _ _ _ c.step.ensures c.in-Broken.is in omega arith

pub put_list-put_broken-requires-in-Broken : goal.put_list-put_broken-requires-in-Broken
put_list-put_broken-requires-in-Broken t c = let v = broke _ _ _ _ c.step.ensures c.in-Broken.is in omega arith

pub put_list-returns-in-Broken : goal.put_list-returns-in-Broken
put_list-returns-in-Broken t c =
    let v = broke _ _ _ _ c.step.ensures c.in-Broken.is in
    let e = list_broken _ _ _ _ _ _ v.0 v.1 v.2 in
    (rest_last c.loop-b.invariant.1 (pen_is e c.put_broken-in-Broken.ensures.0), omega arith)
