-- The invariant: each slot is that of the boxes before the walk's place, which are plain.
use mathlib.Core.Bool.{true}
use Prim.Native.Nat.{◌-◌}
use Rattle.layout.proofs.Gathering.{Walked}
use Rattle.layout.specs.Slots.{first_with}
use lib.ListN.{length}
use Rattle.layout.proofs.plain.three.Given as goal

abbrev pub invariant-loop-x : goal.invariant-loop-x
invariant-loop-x l =
    Walked l.file l.part l.whole l.w.at true (first_with l.a) (first_with l.b) (first_with l.c) (first_with l.c) (first_with l.c) l.i l.j l.k l.k l.k

abbrev pub decreases-loop-x : goal.decreases-loop-x
decreases-loop-x l = length l.part - l.w.at
