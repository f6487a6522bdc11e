-- The invariant: t tracks before the walk's place, and entry i is number `left` from there on.
use Prim.Native.Nat.{◌-◌}
use Rattle.movie.proofs.Spots.{Spotted}
use lib.ListN.{length}
use Rattle.movie.proofs.entry.find_spot.Given as goal

abbrev pub invariant-loop-b : goal.invariant-loop-b
invariant-loop-b l = Spotted l.moov l.i l.t l.left l.w.at

abbrev pub decreases-loop-b : goal.decreases-loop-b
decreases-loop-b l = length l.moov - l.w.at
