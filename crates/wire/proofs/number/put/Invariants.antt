-- The invariant: all bytes but the first i are put, and those are the last of m.
use Rattle.wire.proofs.Putting.{Behind}
use Rattle.wire.proofs.number.put.Given as goal

abbrev pub invariant-loop-i : goal.invariant-loop-i
invariant-loop-i g l = Behind l.initial.out l.at g.row.W l.n l.out l.i l.m
