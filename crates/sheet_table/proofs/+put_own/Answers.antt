use Rattle.sheet_table.proofs.Reading.{parts_length}
use Rattle.sheet_table.proofs.Owning.{own_none, own_more}
use mathlib.Core.Path.{refl}
use Rattle.wire.specs.Numbers.{word}
use native.Mathlib.Omega.{arith}
use Rattle.sheet_table.proofs.+put_own.Goals as goal

pub returns-then-n-eq0 : goal.returns-then-n-eq0
returns-then-n-eq0 t c = (own_none _ _ _ _ _ _ (omega arith), omega arith)

pub put_if-a-requires : goal.put_if-a-requires
put_if-a-requires t c = let a = c.args in omega (arith, parts_length (word 4 a.slots.now 8) a.bodies.now c.body.ensures refl)

pub overflow_sub-n : goal.overflow_sub-n
overflow_sub-n t c = omega arith

pub put_own-requires : goal.put_own-requires
put_own-requires t c = let a = c.args in (omega arith, omega (arith, parts_length (word 4 a.slots.now 8) a.bodies.now c.body.ensures c.past.ensures))

pub returns : goal.returns
returns t c = let a = c.args in (own_more _ (λ e. omega arith) record { slots = c.rest.ensures; bodies = c.past.ensures } c.byte.ensures.0 c.body.ensures c.put_if-a.ensures.0 c.put_own.ensures.0, omega (arith, parts_length (word 4 a.slots.now 8) a.bodies.now c.body.ensures c.past.ensures))
