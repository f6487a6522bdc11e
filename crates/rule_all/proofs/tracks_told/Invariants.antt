-- The invariant: as without what the tracks say, and the first i are filled in.
use Rattle.layout.proofs.Filling.{Filled}
use Rattle.rule_all.proofs.Running.{Run}
use Rattle.rule_all.proofs.tracks_told.Given as goal

abbrev pub invariant-loop-i : goal.invariant-loop-i
invariant-loop-i l = Run l.file l.i l.p × Filled l.file l.i l.found
