use Rattle.sheet_table.proofs.Slotting.{slots_none, slots_more}
use native.Mathlib.Omega.{arith}
use Rattle.sheet_table.proofs.slots.+put_slots.Goals as goal

pub returns-then-n-eq0 : goal.returns-then-n-eq0
returns-then-n-eq0 t c = slots_none _ _ _ _ _ (omega arith)

pub put_first-a-requires : goal.put_first-a-requires
put_first-a-requires t c = omega arith

pub overflow_sub-n : goal.overflow_sub-n
overflow_sub-n t c = omega arith

pub put_slots-requires : goal.put_slots-requires
put_slots-requires t c = (omega arith, omega arith)

pub returns : goal.returns
returns t c = slots_more (λ e. omega arith) record { slots = c.rest.ensures; bodies = c.past.ensures } c.put_first-a.ensures.0 c.put_slots.ensures
