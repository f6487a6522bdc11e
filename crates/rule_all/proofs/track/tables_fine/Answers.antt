-- Rule 6 gives what rule 7 asks, and both give what rule 8 asks.
use Rattle.wire.proofs.Clauses.{fails, holds, decides}
use Rattle.rule_all.specs.Track.{tables_fine}
use Rattle.rule_all.proofs.Answers.{tables_six, tables_ready}
use Rattle.rule_all.proofs.Hint.{hint_media}
use mathlib.Core.Path.{sym, ◌∙◌}
use Rattle.rule_all.proofs.track.tables_fine.Goals as goal

pub seven-requires : goal.seven-requires
unfolding tables_fine
seven-requires c = rw (c.bytes-2.ensures, c.bytes-runs.ensures, c.bytes-sizes.ensures, c.bytes-offsets.ensures) (tables_six _ _ c.requires.1)

pub eight-requires : goal.eight-requires
unfolding tables_fine
eight-requires c = (rw (c.bytes-runs.ensures, c.bytes-sizes.ensures, c.bytes-offsets.ensures) (tables_ready _ _ _ _ _ (tables_six _ _ c.requires.1) (sym (rw (c.bytes-2.ensures, c.bytes-runs.ensures, c.bytes-sizes.ensures, c.bytes-offsets.ensures, c.word32-entries.ensures.0, c.bytes.ensures) at c.seven.ensures) ∙ c.if-seven.true)), hint_media c.requires.2 c.first.ensures)

pub returns-then-seven : goal.returns-then-seven
unfolding tables_fine
returns-then-seven c = (rw (c.bytes-runs.ensures, c.bytes-sizes.ensures, c.bytes-offsets.ensures) at c.eight.ensures)
    ∙ (holds _ _ (sym (rw (c.bytes-2.ensures, c.bytes-runs.ensures, c.bytes-sizes.ensures, c.bytes-offsets.ensures, c.word32-entries.ensures.0, c.bytes.ensures) at c.seven.ensures) ∙ c.if-seven.true) (decides _))

pub returns-else-seven : goal.returns-else-seven
unfolding tables_fine
returns-else-seven c = c.if-seven.false ∙ fails 0 _ (sym (rw (c.bytes-2.ensures, c.bytes-runs.ensures, c.bytes-sizes.ensures, c.bytes-offsets.ensures, c.word32-entries.ensures.0, c.bytes.ensures) at c.seven.ensures) ∙ c.if-seven.false)
