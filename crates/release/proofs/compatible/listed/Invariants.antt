-- The invariant: none of the first i brands is c.
use mathlib.Core.Path.{◌≡◌}
use Rattle.release.specs.Compatible.{times_to}
use Rattle.release.proofs.compatible.listed.Given as goal

abbrev pub invariant-loop-i : goal.invariant-loop-i
invariant-loop-i l = times_to l.c l.ftyp l.i ≡ 0
