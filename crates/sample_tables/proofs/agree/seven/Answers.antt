use Rattle.std.proofs.Common.{arith}
use Rattle.std.proofs.lemmas.Grind.{common_steps}
use Rattle.wire.specs.Clauses.{is_eq, is_le, every}
use Rattle.sample_tables.proofs.Rules.{walkable}
use Rattle.sample_tables.specs.Rules.{tables_agree}
use borrow.Author.Rules.{rules}
use Rattle.sample_tables.proofs.agree.seven.Goals as goal

pub samples_over-requires : goal.samples_over-requires
samples_over-requires c = walkable _ _ _ _ c.args.descriptions c.requires (search rules) (search rules)

pub returns-then-empty_together : goal.returns-then-empty_together
unfolding tables_agree every is_eq is_le
returns-then-empty_together c = grind (arith, common_steps)

pub returns-else-empty_together : goal.returns-else-empty_together
unfolding tables_agree every is_eq is_le
returns-else-empty_together c = grind (arith, common_steps)
