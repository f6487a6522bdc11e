use Rattle.sheet_table.proofs.Owning.{count_none, count_more, one_most}
use native.Mathlib.Omega.{arith}
use Rattle.sheet_table.proofs.+count_own.Goals as goal

pub returns-then-n-eq0 : goal.returns-then-n-eq0
returns-then-n-eq0 t c = (count_none _ _ _ _ (omega arith), omega arith)

pub overflow_sub-n : goal.overflow_sub-n
overflow_sub-n t c = omega arith

pub count_own-requires : goal.count_own-requires
count_own-requires t c = (omega arith, tt)

pub overflow_add-result : goal.overflow_add-result
overflow_add-result t c = omega (arith, one_most c.byte.result c.args.track)

pub returns : goal.returns
returns t c = (count_more _ (λ e. omega arith) record { slots = c.rest.ensures; bodies = c.past.ensures } c.byte.ensures.0 c.choose-first.ensures c.count_own.ensures.0, omega (arith, one_most c.byte.result c.args.track))
