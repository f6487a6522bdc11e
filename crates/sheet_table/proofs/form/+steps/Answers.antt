use Rattle.sheet_table.proofs.Judging.{steps_none, steps_bad, steps_more}
use native.Mathlib.Omega.{arith}
use Rattle.sheet_table.proofs.form.+steps.Goals as goal

pub returns-then-n-eq0 : goal.returns-then-n-eq0
returns-then-n-eq0 t c = steps_none _ _ _ _ (omega arith)

pub returns-then-not-follows : goal.returns-then-not-follows
returns-then-not-follows t c = steps_bad _ _ _ _ (λ e. omega arith) c.byte-track.ensures.0 c.follows.ensures c.if-not-follows.true

pub overflow_sub-n : goal.overflow_sub-n
overflow_sub-n t c = omega arith

pub steps-requires : goal.steps-requires
steps-requires t c = (omega arith, omega arith)

pub returns : goal.returns
returns t c = steps_more _ _ _ _ (λ e. omega arith) c.byte-track.ensures.0 c.follows.ensures record { slots = c.rest.ensures; bodies = c.past.ensures } c.if-not-follows.false c.steps.ensures
