-- The invariant: no track before track j has the ID of track i.
use Rattle.boxes.specs.Boxes.{boxes}
use Rattle.rule_headers.specs.Identities.{identity, fresh}
use mathlib.Core.Bool.{true}
use mathlib.Core.Path.{◌≡◌}
use Rattle.rule_headers.proofs.identities.fresh.Given as goal

abbrev pub invariant-loop-j : goal.invariant-loop-j
invariant-loop-j l = (l.own ≡ identity (boxes l.moov) l.i) × (fresh (boxes l.moov) l.i l.j ≡ true)
