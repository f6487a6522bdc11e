use Rattle.std.proofs.Common.{arith}
use Rattle.std.proofs.lemmas.Grind.{common_steps}
use Rattle.wire.specs.Tests.{if_eq}
use Rattle.wire.specs.Clauses.{is_eq, is_lt}
use Rattle.sample_tables.specs.Runs.{rises}
use Rattle.sample_tables.proofs.run.rises.Goals as goal

pub returns-then-i-eq0 : goal.returns-then-i-eq0
unfolding rises if_eq is_eq
returns-then-i-eq0 c = grind (arith, common_steps)

pub returns : goal.returns
unfolding rises if_eq is_lt
returns c = grind (arith, common_steps)
