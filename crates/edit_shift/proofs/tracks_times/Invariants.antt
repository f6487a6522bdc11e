-- The invariant: the times of the tracks before the walk's place may be shifted.
use Prim.Native.Nat.{◌-◌}
use Rattle.clocks.specs.Zones.{leaves}
use Rattle.edit_shift.proofs.Asking.{Timely}
use lib.ListN.{length}
use Rattle.edit_shift.proofs.tracks_times.Given as goal

abbrev pub invariant-loop-b : goal.invariant-loop-b
invariant-loop-b l = Timely (leaves l.zone) l.moov l.w.at

abbrev pub decreases-loop-b : goal.decreases-loop-b
decreases-loop-b l = length l.moov - l.w.at
