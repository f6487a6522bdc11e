use Rattle.sample_tables.proofs.Chunks.{walk_run, walk_room, walk_inside}
use Rattle.sample_tables.proofs.Steps.{step_end, step_found}
use native.Mathlib.Omega.{arith}
use Rattle.sample_tables.proofs.chunk.ChunkWalk.step.Goals as goal

pub returns-then-items-nth : goal.returns-then-items-nth
returns-then-items-nth c = step_end _ _ _ (omega arith)

pub per_chunk-samples-requires : goal.per_chunk-samples-requires
per_chunk-samples-requires c = let p = c.requires in
    (p.0.runs, walk_inside _ _ _ p.1 _ p.0 (omega arith))

pub description-requires : goal.description-requires
description-requires c = let p = c.requires in
    (p.0.runs, walk_inside _ _ _ p.1 _ p.0 (omega arith))

pub run_after-requires : goal.run_after-requires
run_after-requires c = let p = c.requires in
    (p.0.runs, p.0.rising, walk_run _ _ _ p.1, omega arith, p.0.some (omega arith))

pub overflow_add-next-2 : goal.overflow_add-next-2
overflow_add-next-2 c = omega (arith, walk_room _ _ _ c.requires.1 (λ k. (c.type_inv.stsc k).fits))

pub returns : goal.returns
returns c = let p = c.requires in
    step_found _ _ _ p.1 c.per_chunk-samples.ensures.0 c.offset_at.ensures.0 c.description.ensures.0 c.run_after.ensures (omega arith)
