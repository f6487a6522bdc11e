-- The invariant: n of the boxes before the walk's place are meant, and all of them are plain.
use Prim.Native.Nat.{◌-◌}
use lib.ListN.{length}
use Rattle.boxes.specs.Seek.{Tallied}
use Rattle.boxes.proofs.seek.tally.Given as goal

abbrev pub invariant-loop-b : goal.invariant-loop-b
invariant-loop-b l = Tallied l.part l.c l.n l.w.at

abbrev pub decreases-loop-b : goal.decreases-loop-b
decreases-loop-b l = length l.part - l.w.at
