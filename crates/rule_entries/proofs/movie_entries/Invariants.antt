-- The invariant: what is found before the walk's place, and what is left from there on.
use Prim.Native.Nat.{◌-◌}
use Rattle.boxes.specs.Boxes.{boxes}
use Rattle.movie.specs.Stsds.{stsds_from}
use Rattle.rule_entries.proofs.Entry.{box_judged, no_end}
use Rattle.rule_entries.specs.Ten.{stsds_judged}
use Rattle.rule.proofs.Traverse.{Found}
use lib.ListN.{length}
use Rattle.rule_entries.proofs.movie_entries.Given as goal

abbrev pub invariant-loop-b : goal.invariant-loop-b
invariant-loop-b l = Found (box_judged l.release) no_end l.part l.base (stsds_judged l.release (stsds_from 0 (boxes l.part) l.base)) l.found l.w.at

abbrev pub decreases-loop-b : goal.decreases-loop-b
decreases-loop-b l = length l.part - l.w.at
