-- Rule 6 of each table in turn.
use Rattle.std.proofs.Common.{arith}
use Rattle.std.proofs.lemmas.Grind.{common_steps}
use Rattle.wire.specs.Clauses.{every}
use Rattle.rule_all.specs.Track.{forms_fine}
use Rattle.rule_all.proofs.track.forms_fine.Goals as goal

pub returns-then-sizes_form : goal.returns-then-sizes_form
unfolding forms_fine every
returns-then-sizes_form c = grind (arith, common_steps)

pub returns-else-sizes_form : goal.returns-else-sizes_form
unfolding forms_fine every
returns-else-sizes_form c = grind (arith, common_steps)
