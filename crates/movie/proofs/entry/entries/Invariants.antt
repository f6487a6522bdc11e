-- The invariant: n entries before the walk's place.
use Prim.Native.Nat.{◌-◌}
use Rattle.movie.proofs.Counting.{Tally}
use lib.ListN.{length}
use Rattle.movie.proofs.entry.entries.Given as goal

abbrev pub invariant-loop-b : goal.invariant-loop-b
invariant-loop-b l = Tally l.moov l.n l.w.at

abbrev pub decreases-loop-b : goal.decreases-loop-b
decreases-loop-b l = length l.moov - l.w.at
