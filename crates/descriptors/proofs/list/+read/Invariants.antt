use Prim.Native.Nat.{◌≤◌}
use mathlib.Core.Path.{◌≡◌}
use lib.ListN.{length}
use Rattle.descriptors.specs.Trees.{tree}
use Rattle.descriptors.specs.Reading.{read_on}
use Rattle.descriptors.proofs.list.+read.Given as goal

-- the bytes fall
abbrev pub decreases-read : goal.decreases-read
decreases-read l = length l.bytes.now

-- those of the rest are left
abbrev pub invariant-loop-rest : goal.invariant-loop-rest
invariant-loop-rest l = (length l.rest ≤ length l.bytes) × (read_on l.fn.before (tree l.k l.bytes) ≡ read_on l.r (tree l.k l.rest))

abbrev pub decreases-loop-rest : goal.decreases-loop-rest
decreases-loop-rest l = length l.rest
