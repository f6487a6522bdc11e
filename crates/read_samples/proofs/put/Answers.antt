use native.Mathlib.Omega.{arith}
use Rattle.sample_walk.proofs.Walks.{start_before, step_gives, step_ends, gives_more}
use Rattle.read_samples.proofs.Counting.{samples_count}
use Rattle.read_samples.proofs.Numbers.{putting_none, putting_room, putting_more, putting_all}
use Rattle.read_samples.proofs.put.Goals as goal

pub loop-sample-init : goal.loop-sample-init
loop-sample-init c = let p = c.requires in rw c.start-walk.ensures (start_before _ _ _ p.0, putting_none _ _)

pub step-requires : goal.step-requires
step-requires c = (c.requires.0, c.loop-sample.invariant.0)

pub put_sample-requires : goal.put_sample-requires
put_sample-requires c =
    let p = c.requires in
    let g = step_gives _ _ _ _ c.step.ensures c.in-Some.is in
    putting_room c.loop-sample.invariant.1 p.1 (gives_more _ _ _ g)

pub overflow_add-at : goal.overflow_add-at
overflow_add-at c =
    let p = c.requires in
    let i = c.loop-sample.invariant in
    let g = step_gives _ _ _ _ c.step.ensures c.in-Some.is in
    omega (arith, i.1.twice, gives_more _ _ _ g, samples_count _ _ _ p.0, p.0.few)

pub loop-sample-smaller : goal.loop-sample-smaller
loop-sample-smaller c =
    let g = step_gives _ _ _ _ c.step.ensures c.in-Some.is in
    omega (arith, g.number, gives_more _ _ _ g)

pub loop-sample-preserved : goal.loop-sample-preserved
loop-sample-preserved c =
    let g = step_gives _ _ _ _ c.step.ensures c.in-Some.is in
    (g.walk, rw g.number (putting_more c.loop-sample.invariant.1 g.is c.put_sample.ensures))

pub returns : goal.returns
returns c =
    let p = c.requires in
    putting_all c.loop-sample.invariant.1 (step_ends _ _ _ _ c.step.ensures c.in_default.is) p.1
