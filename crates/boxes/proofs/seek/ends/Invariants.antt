-- The invariant: what is past the last box from the walk's place on is what is past the last box of all.
use Prim.Native.Nat.{◌-◌}
use Rattle.boxes.specs.Boxes.{after}
use lib.ListN.{length, drop}
use mathlib.Core.Path.{◌≡◌}
use Rattle.boxes.proofs.seek.ends.Given as goal

abbrev pub invariant-loop-next : goal.invariant-loop-next
invariant-loop-next l = after l.part ≡ after (drop l.w.at l.part)

abbrev pub decreases-loop-next : goal.decreases-loop-next
decreases-loop-next l = length l.part - l.w.at
