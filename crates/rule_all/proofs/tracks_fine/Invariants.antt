-- The invariant: the first i tracks are good, and at 11 their entries are fine too.
use Rattle.rule_all.proofs.Running.{Run}
use Rattle.rule_all.proofs.tracks_fine.Given as goal

abbrev pub invariant-loop-i : goal.invariant-loop-i
invariant-loop-i l = Run l.file l.i l.p
