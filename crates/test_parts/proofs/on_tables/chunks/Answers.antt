use Rattle.std.proofs.Common.{List, ℕ, ◌≡◌, ◌+◌, ◌≤◌, ◌<◌}
use mathlib.Core.Path.{sym, ◌∙◌}
use native.Mathlib.Omega.{arith}
use Rattle.sample_tables.proofs.Chunks.{first_more, first_mono}
use Rattle.sample_tables.specs.Chunks.{chunk_at}
use Rattle.sample_tables.specs.Tables.{items}
use Rattle.sample_tables.specs.declared.chunk.Chunk.{Chunk}
use Rattle.sample_times.specs.Walks.{Playable}
use Rattle.sample_times.proofs.Walks.{start_is}
use Rattle.sample_times.proofs.Steps.{sounded, ticked}
use Rattle.test_parts.proofs.on_tables.chunks.Goals as goal

-- a chunk's samples are among those of all chunks
few : (stts stsc stco : List ℕ) → Playable stts stsc stco → (k : ℕ) (found : Chunk) → found ≡ chunk_at stsc stco k → k < items stco → found.first + found.samples ≤ 65536
unfolding chunk_at
few stts stsc stco p k found e h = rw e (omega (arith, first_more stsc k, first_mono stsc (k + 1) (items stco) (omega arith), p.total, p.clock.few))

pub loop-found-init : goal.loop-found-init
loop-found-init c = (start_is _ _ _ c.requires _ c.start-walk.ensures).2

pub say_chunk-requires : goal.say_chunk-requires
say_chunk-requires c =
    let f = sounded _ _ _ c.requires _ c.loop-found.invariant _ _ _ (sym c.in-Found.is ∙ c.step.ensures) in
    (c.requires.clock.times, few _ _ _ c.requires _ _ f.found f.inside)

pub loop-found-smaller-in-Found : goal.loop-found-smaller-in-Found
loop-found-smaller-in-Found c =
    let f = sounded _ _ _ c.requires _ c.loop-found.invariant _ _ _ (sym c.in-Found.is ∙ c.step.ensures) in
    omega (arith, f.inside, f.chunk, f.item)

pub loop-found-preserved-in-Found : goal.loop-found-preserved-in-Found
loop-found-preserved-in-Found c =
    let f = sounded _ _ _ c.requires _ c.loop-found.invariant _ _ _ (sym c.in-Found.is ∙ c.step.ensures) in
    f.walk

pub loop-found-smaller : goal.loop-found-smaller
loop-found-smaller c =
    let f = ticked _ _ _ c.requires _ c.loop-found.invariant _ (sym c.in-Ticking.is ∙ c.step.ensures) in
    omega (arith, f.inside, f.more, f.chunk, f.item)

pub loop-found-preserved : goal.loop-found-preserved
loop-found-preserved c =
    let f = ticked _ _ _ c.requires _ c.loop-found.invariant _ (sym c.in-Ticking.is ∙ c.step.ensures) in
    f.walk
