-- Inside a chunk its next sample; past its last one the first of the next chunk, or the end.
use native.Mathlib.Omega.{arith}
use mathlib.Core.Path.{sym, ◌∙◌}
use Rattle.sample_tables.proofs.Chunks.{walk_sample}
use Rattle.sample_tables.proofs.Steps.{found_is, end_is}
use Rattle.sample_walk.specs.Walks.{StepAs}
use Rattle.sample_walk.proofs.Walks.{enters, ends}
use Rattle.sample_walk.proofs.walk.SampleWalk.step.Goals as goal

pub found-requires : goal.found-requires
unfolding StepAs
found-requires c = let p = c.requires in (p.0, p.1, omega (arith, walk_sample _ _ _ p.1.chunks))

pub step-requires : goal.step-requires
unfolding StepAs
step-requires c = let p = c.requires in (p.0.walk, p.1.chunks)

pub returns-then-number-chunks : goal.returns-then-number-chunks
unfolding StepAs
returns-then-number-chunks c = c.found.ensures

pub found-requires-2 : goal.found-requires-2
unfolding StepAs
found-requires-2 c =
    let p = c.requires in
    let f = found_is _ _ _ _ _ (sym c.in_ok-chunk.was ∙ c.step.ensures) in
    let e = enters _ _ _ p.0 _ p.1 (omega (arith, walk_sample _ _ _ p.1.chunks)) _ _ f in
    (p.0, e.0, e.1)

pub returns : goal.returns
unfolding StepAs
returns c = c.found-2.ensures

pub returns-in_err-chunk : goal.returns-in_err-chunk
unfolding StepAs
returns-in_err-chunk c =
    let p = c.requires in
    rw c.from_residual.ensures (ends _ _ _ p.0 _ p.1 (omega (arith, walk_sample _ _ _ p.1.chunks)) (end_is _ _ _ (sym c.in_err-chunk.was ∙ c.step.ensures)))
