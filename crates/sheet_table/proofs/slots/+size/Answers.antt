use Rattle.sheet_table.proofs.Reading.{size_none, size_more}
use native.Mathlib.Omega.{arith}
use Rattle.sheet_table.proofs.slots.+size.Goals as goal

pub returns-then-n-eq0 : goal.returns-then-n-eq0
returns-then-n-eq0 t c = (size_none _ _ _ (omega arith), omega arith)

pub overflow_sub-n : goal.overflow_sub-n
overflow_sub-n t c = omega arith

pub size-requires : goal.size-requires
size-requires t c = (omega arith, tt)

pub overflow_add-result : goal.overflow_add-result
overflow_add-result t c = omega (arith)

pub returns : goal.returns
returns t c = size_more (λ e. omega arith) record { slots = c.rest.ensures; bodies = c.past.ensures } _ c.body-first.ensures c.size.ensures.0 c.size.ensures.1
