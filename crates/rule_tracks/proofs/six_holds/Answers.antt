use Rattle.std.proofs.Common.{arith}
use Rattle.std.proofs.lemmas.Grind.{common_steps}
use Rattle.wire.specs.Clauses.{every}
use Rattle.rule_tracks.specs.Asked.{six_holds}
use Rattle.rule_tracks.proofs.six_holds.Goals as goal

pub returns-then-sizes_form : goal.returns-then-sizes_form
unfolding six_holds every
returns-then-sizes_form c = grind (arith, common_steps)

pub returns-else-sizes_form : goal.returns-else-sizes_form
unfolding six_holds every
returns-else-sizes_form c = grind (arith, common_steps)
