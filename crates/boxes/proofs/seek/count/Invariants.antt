-- The invariant: n of the boxes before the walk's place are meant.
use Prim.Native.Nat.{◌-◌}
use Rattle.boxes.specs.Seek.{Passed}
use lib.ListN.{length}
use Rattle.boxes.proofs.seek.count.Given as goal

abbrev pub invariant-loop-b : goal.invariant-loop-b
invariant-loop-b l = Passed l.part l.c l.n l.w.at

abbrev pub decreases-loop-b : goal.decreases-loop-b
decreases-loop-b l = length l.part - l.w.at
