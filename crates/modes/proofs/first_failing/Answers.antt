use native.Mathlib.Omega.{arith}
use Rattle.sample_walk.proofs.Walks.{start_before, step_gives, step_ends, gives_more}
use Rattle.read_samples.proofs.Counting.{samples_count}
use Rattle.modes.proofs.Failings.{passing_none, passing_all, passing_not, passing_more}
use Rattle.modes.proofs.first_failing.Goals as goal

pub loop-s-init : goal.loop-s-init
loop-s-init c =
    let p = c.requires in
    rw c.start-walk.ensures (c.samples-n.ensures.0, start_before _ _ _ p, passing_none _ _)

pub step-requires : goal.step-requires
step-requires c = (c.requires, c.loop-s.invariant.1)

pub overflow_sub-n : goal.overflow_sub-n
overflow_sub-n c =
    let i = c.loop-s.invariant in
    let p = c.requires in
    let g = step_gives _ _ _ _ c.step.ensures c.in-Some.is in
    omega (arith, g.number, gives_more _ _ _ g, samples_count _ _ _ p, i.0)

pub why_of-requires : goal.why_of-requires
why_of-requires c =
    (step_gives _ _ _ _ c.step.ensures c.in-Some.is).described

pub returns-in-Some-why_of : goal.returns-in-Some-why_of
returns-in-Some-why_of c =
    let i = c.loop-s.invariant in
    let p = c.requires in
    let g = step_gives _ _ _ _ c.step.ensures c.in-Some.is in
    passing_not _ _ _ i.2 g.is (omega (arith, g.number, samples_count _ _ _ p, i.0)) c.why_of.ensures c.in-Some-why_of.is g.number

pub loop-s-smaller : goal.loop-s-smaller
loop-s-smaller c =
    let g = step_gives _ _ _ _ c.step.ensures c.in-Some.is in
    omega (arith, g.number, gives_more _ _ _ g)

pub loop-s-preserved : goal.loop-s-preserved
loop-s-preserved c =
    let i = c.loop-s.invariant in
    let p = c.requires in
    let g = step_gives _ _ _ _ c.step.ensures c.in-Some.is in
    (i.0, g.walk, passing_more _ _ _ i.2 g.is (omega (arith, g.number, samples_count _ _ _ p, i.0)) c.why_of.ensures c.in_default-why_of.is g.number)

pub returns : goal.returns
returns c =
    passing_all _ _ _ c.loop-s.invariant.2 (step_ends _ _ _ _ c.step.ensures c.in_default.is)
