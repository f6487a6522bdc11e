-- The invariant: what is written once the sizes from the loop's place on are written.
use Prim.Native.Nat.{◌-◌}
use lib.ListN.{length}
use Rattle.from_amr.proofs.Sizing.{Sizing}
use Rattle.from_amr.proofs.table.put_sizes.Given as goal

abbrev pub invariant-loop-size : goal.invariant-loop-size
invariant-loop-size l = Sizing l.codec l.part l.initial.out l.at l.i l.to l.out

abbrev pub decreases-loop-size : goal.decreases-loop-size
decreases-loop-size l = length l.part - l.i
