-- The invariant: the walk stands before a sample, and the numbers of those from it on are left to write.
use Prim.Native.Nat.{◌-◌}
use lib.ListN.{length}
use Rattle.sample_walk.specs.Samples.{samples_at}
use Rattle.sample_walk.specs.Walks.{Before}
use Rattle.read_samples.proofs.Numbers.{Putting}
use Rattle.read_samples.proofs.put.Given as goal

abbrev pub invariant-loop-sample : goal.invariant-loop-sample
invariant-loop-sample l = Before l.stsc l.stsz l.stco l.walk × Putting (samples_at l.stsc l.stsz l.stco) l.walk.number l.initial.out l.out l.at

abbrev pub decreases-loop-sample : goal.decreases-loop-sample
decreases-loop-sample l = length (samples_at l.stsc l.stsz l.stco) - l.walk.number
