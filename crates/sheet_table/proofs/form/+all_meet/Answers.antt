use Rattle.sheet_table.proofs.Judging.{meet_none, meet_bad, meet_more}
use mathlib.Core.Path.{sym, ◌∙◌}
use native.Mathlib.Omega.{arith}
use Rattle.sheet_table.proofs.form.+all_meet.Goals as goal

pub returns-then-n-eq0 : goal.returns-then-n-eq0
returns-then-n-eq0 t c = meet_none _ _ _ (omega arith)

pub returns-then-not-entry_rule : goal.returns-then-not-entry_rule
returns-then-not-entry_rule t c = meet_bad _ _ (λ e. omega arith) c.body.ensures (sym c.entry_rule.ensures ∙ c.if-not-entry_rule.true)

pub overflow_sub-n : goal.overflow_sub-n
overflow_sub-n t c = omega arith

pub all_meet-requires : goal.all_meet-requires
all_meet-requires t c = (omega arith, tt)

pub returns : goal.returns
returns t c = meet_more _ _ (λ e. omega arith) c.body.ensures record { slots = c.rest.ensures; bodies = c.past.ensures } (sym c.entry_rule.ensures ∙ c.if-not-entry_rule.false) c.all_meet.ensures
