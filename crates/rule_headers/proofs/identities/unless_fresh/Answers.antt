use Rattle.rule.proofs.Places.{unless_yea, unless_nay}
use Rattle.rule.specs.Verdict.{Bad}
use mathlib.Core.Path.{ap, ◌∙◌}
use Rattle.rule_headers.proofs.identities.unless_fresh.Goals as goal

pub returns-then-not-fresh : goal.returns-then-not-fresh
returns-then-not-fresh c = ap Bad c.tkhd_place.ensures ∙ unless_nay _ _ (cc)

pub returns : goal.returns
returns c = unless_yea _ _ (cc)
