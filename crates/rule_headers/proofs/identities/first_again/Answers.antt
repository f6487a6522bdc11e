use Rattle.boxes.specs.Boxes.{boxes}
use Rattle.rule_headers.proofs.Fresh.{fresh_start, fresh_next}
use Rattle.rule_headers.specs.Identities.{fresh_to}
use Rattle.rule.specs.Verdict.{sooner}
use mathlib.Core.Path.{ap, ◌∙◌}
use native.Mathlib.Omega.{arith}
use Rattle.rule_headers.proofs.identities.first_again.Goals as goal

pub loop-i-init : goal.loop-i-init
loop-i-init c = fresh_start _ _

pub loop-i-preserved : goal.loop-i-preserved
loop-i-preserved c = fresh_next _ _ _ c.loop-i.invariant (c.sooner-found.ensures ∙ ap (sooner _) c.unless_fresh.ensures)

pub returns : goal.returns
returns c = c.loop-i.invariant ∙ ap (fresh_to (boxes c.args.moov.now) c.args.base) (omega arith)
