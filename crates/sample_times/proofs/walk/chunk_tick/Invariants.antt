-- The invariant: the walk stands before a chunk that isn't past k. A step leaves fewer chunks or fewer items.
use Prim.Native.Nat.{◌+◌, ◌-◌, ◌≤◌}
use Rattle.sample_tables.specs.Tables.{items}
use Rattle.sample_times.specs.Walks.{Timed}
use Rattle.sample_times.proofs.walk.chunk_tick.Given as goal

abbrev pub invariant-loop-chunk : goal.invariant-loop-chunk
invariant-loop-chunk l = Timed l.stts l.stsc l.walk × (l.walk.walk.chunk ≤ l.k)

abbrev pub decreases-loop-chunk : goal.decreases-loop-chunk
decreases-loop-chunk l = (items l.stco - l.walk.walk.chunk) + (items l.stts - l.walk.clock.item)
