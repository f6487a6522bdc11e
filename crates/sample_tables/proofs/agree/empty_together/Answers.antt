use Rattle.std.proofs.Common.{arith}
use Rattle.std.proofs.lemmas.Grind.{common_steps}
use Rattle.wire.specs.Tests.{if_eq}
use Rattle.wire.specs.Clauses.{is_eq, is_le, every}
use Rattle.sample_tables.specs.Rules.{empty_together}
use Rattle.sample_tables.proofs.agree.empty_together.Goals as goal

pub returns-then-runs-eq0 : goal.returns-then-runs-eq0
unfolding empty_together if_eq every is_eq
returns-then-runs-eq0 c = grind (arith, common_steps)

pub returns-else-runs-eq0 : goal.returns-else-runs-eq0
unfolding empty_together if_eq every is_eq
returns-else-runs-eq0 c = grind (arith, common_steps)

pub returns : goal.returns
unfolding empty_together if_eq is_le
returns c = grind (arith, common_steps)
