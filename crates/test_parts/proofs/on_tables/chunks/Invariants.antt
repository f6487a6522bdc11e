-- The walk stands before a chunk, or past the last. A step leaves fewer chunks or fewer items.
use Rattle.std.proofs.Common.{◌+◌, ◌-◌}
use Rattle.sample_tables.specs.Tables.{items}
use Rattle.sample_times.specs.Walks.{Timed}
use Rattle.test_parts.proofs.on_tables.chunks.Given as goal

abbrev pub invariant-loop-found : goal.invariant-loop-found
invariant-loop-found l = Timed l.tables.stts.now l.tables.stsc.now l.walk

abbrev pub decreases-loop-found : goal.decreases-loop-found
decreases-loop-found l = (items l.tables.stco.now - l.walk.walk.chunk) + (items l.tables.stts.now - l.walk.clock.item)
