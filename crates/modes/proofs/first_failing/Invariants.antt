-- The invariant: the walk stands before a sample, and none before it fails.
use Prim.Native.Nat.{◌-◌}
use mathlib.Core.Path.{◌≡◌}
use lib.ListN.{length}
use Rattle.boxes.specs.Boxes.{boxes}
use Rattle.sample_tables.specs.Sizes.{sample_count}
use Rattle.sample_walk.specs.Samples.{samples_at}
use Rattle.sample_walk.specs.Walks.{Before}
use Rattle.modes.specs.Track.{why_of}
use Rattle.modes.proofs.Failings.{Passing}
use Rattle.modes.proofs.first_failing.Given as goal

abbrev pub invariant-loop-s : goal.invariant-loop-s
invariant-loop-s l =
    (l.n ≡ sample_count l.stsz) × Before l.stsc l.stsz l.stco l.walk × Passing (why_of l.file (boxes l.list)) (samples_at l.stsc l.stsz l.stco) l.walk.number

abbrev pub decreases-loop-s : goal.decreases-loop-s
decreases-loop-s l = length (samples_at l.stsc l.stsz l.stco) - l.walk.number
