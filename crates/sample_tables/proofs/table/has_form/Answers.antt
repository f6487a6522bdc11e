use Rattle.std.proofs.Common.{arith}
use Rattle.std.proofs.lemmas.Grind.{common_steps}
use Rattle.wire.specs.Clauses.{is_eq, is_le, every}
use Rattle.sample_tables.specs.Tables.{has_form}
use Rattle.sample_tables.proofs.table.has_form.Goals as goal

pub returns-then-byte-eq0 : goal.returns-then-byte-eq0
unfolding has_form every is_eq
returns-then-byte-eq0 c = grind (arith, common_steps)

pub returns-else-byte-eq0 : goal.returns-else-byte-eq0
unfolding has_form every is_eq
returns-else-byte-eq0 c = grind (arith, common_steps)
