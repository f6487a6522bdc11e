use Rattle.sample_times.proofs.Walks.{start_is}
use Rattle.sample_times.proofs.Steps.{sounded, ticked, ended, tick_of}
use mathlib.Core.Path.{sym, ◌∙◌}
use native.Mathlib.Omega.{arith}
use Rattle.sample_times.proofs.walk.chunk_tick.Goals as goal

pub loop-chunk-init : goal.loop-chunk-init
loop-chunk-init c = let s = start_is _ _ _ c.requires.0 _ c.start-walk.ensures in (s.2, omega (arith, s.0))

pub step-requires : goal.step-requires
step-requires c = (c.requires.0, c.loop-chunk.invariant.0)

pub returns-then-chunk-k : goal.returns-then-chunk-k
returns-then-chunk-k c = let p = c.requires in
    let f = sounded _ _ _ p.0 _ c.loop-chunk.invariant.0 _ _ _ (sym c.in-Found.is ∙ c.step.ensures) in
    tick_of _ _ _ _ _ f.tick (omega (arith, f.nth))

pub loop-chunk-smaller-in-Found : goal.loop-chunk-smaller-in-Found
loop-chunk-smaller-in-Found c = let p = c.requires in
    let f = sounded _ _ _ p.0 _ c.loop-chunk.invariant.0 _ _ _ (sym c.in-Found.is ∙ c.step.ensures) in
    omega (arith, f.inside, f.chunk, f.item)

pub loop-chunk-preserved-in-Found : goal.loop-chunk-preserved-in-Found
loop-chunk-preserved-in-Found c = let p = c.requires in
    let f = sounded _ _ _ p.0 _ c.loop-chunk.invariant.0 _ _ _ (sym c.in-Found.is ∙ c.step.ensures) in
    (f.walk, omega (arith, f.nth, f.chunk))

pub loop-chunk-smaller : goal.loop-chunk-smaller
loop-chunk-smaller c = let p = c.requires in
    let f = ticked _ _ _ p.0 _ c.loop-chunk.invariant.0 _ (sym c.in-Ticking.is ∙ c.step.ensures) in
    omega (arith, f.inside, f.more, f.chunk, f.item)

pub loop-chunk-preserved : goal.loop-chunk-preserved
loop-chunk-preserved c = let p = c.requires in
    let f = ticked _ _ _ p.0 _ c.loop-chunk.invariant.0 _ (sym c.in-Ticking.is ∙ c.step.ensures) in
    (f.walk, omega (arith, f.chunk))

pub returns-in-End : goal.returns-in-End
returns-in-End c = let p = c.requires in
    let f = ended _ _ _ p.0 _ c.loop-chunk.invariant.0 (sym c.in-End.is ∙ c.step.ensures) in
    absurd (omega arith)
