-- The four numbers stand at the front.
use Rattle.read_tracks.proofs.Reading.{wrote_said}
use lib.ListN.{length-set}
use native.Mathlib.Omega.{arith}
use Rattle.read_tracks.proofs.said.put.Goals as goal

pub bounds-out-1 : goal.bounds-out-1
bounds-out-1 c = simp length-set (omega arith)

pub bounds-out-2 : goal.bounds-out-2
bounds-out-2 c = simp length-set (omega arith)

pub bounds-out-3 : goal.bounds-out-3
bounds-out-3 c = simp length-set (omega arith)

pub returns : goal.returns
returns c = wrote_said _ _ (omega arith)
