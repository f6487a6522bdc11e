-- The invariant: first is the first sample of chunk k, all chunks of the run before it lie inside, and the last of them in `last`.
use Prim.Native.Nat.{◌-◌, ◌≤◌}
use Rattle.boxes.specs.Boxes.{boxes}
use Rattle.mdat.specs.Rules.{Goes}
use Rattle.mdat.specs.Search.{Media}
use Rattle.sample_tables.specs.Chunks.{first_sample}
use mathlib.Core.Path.{◌≡◌}
use Rattle.mdat.proofs.chunks.run_lies.Given as goal

abbrev pub invariant-loop-k : goal.invariant-loop-k
invariant-loop-k l = (l.from ≤ l.k) × (l.k ≤ l.end) × (l.first ≡ first_sample l.stsc l.k)
    × Goes (boxes l.file) l.stsc l.stsz l.stco l.from l.k × Media l.file l.last
