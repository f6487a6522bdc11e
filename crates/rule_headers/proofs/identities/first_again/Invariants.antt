-- The invariant: what is found is what the first i tracks say.
use Rattle.boxes.specs.Boxes.{boxes}
use Rattle.rule_headers.specs.Identities.{fresh_to}
use mathlib.Core.Path.{◌≡◌}
use Rattle.rule_headers.proofs.identities.first_again.Given as goal

abbrev pub invariant-loop-i : goal.invariant-loop-i
invariant-loop-i l = l.found ≡ fresh_to (boxes l.moov) l.base l.i
