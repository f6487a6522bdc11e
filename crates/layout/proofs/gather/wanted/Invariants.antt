-- The invariant: each slot is that of the boxes before the walk's place, and whether none of these is open.
use Prim.Native.Nat.{◌-◌}
use Rattle.layout.proofs.Gathering.{Walked}
use lib.ListN.{length}
use Rattle.layout.proofs.gather.wanted.Given as goal

abbrev pub invariant-loop-x : goal.invariant-loop-x
invariant-loop-x l = Walked l.file l.part l.whole l.w.at l.shut l.a l.b l.c l.d l.e l.i l.j l.k l.l l.m

abbrev pub decreases-loop-x : goal.decreases-loop-x
decreases-loop-x l = length l.part - l.w.at
