use Rattle.std.proofs.Common.{arith}
use Rattle.std.proofs.lemmas.Grind.{common_steps}
use Rattle.wire.specs.Clauses.{is_eq, is_le, every}
use Rattle.sample_tables.specs.Runs.{run_fine}
use Rattle.sample_tables.proofs.run.run_fine.Goals as goal

pub returns-then-index-ge1 : goal.returns-then-index-ge1
unfolding run_fine every is_le
returns-then-index-ge1 c = grind (arith, common_steps)

pub returns-else-index-ge1 : goal.returns-else-index-ge1
unfolding run_fine every is_le
returns-else-index-ge1 c = grind (arith, common_steps)
