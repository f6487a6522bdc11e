use Rattle.sample_tables.proofs.Tables.{width_fits}
use native.Mathlib.Omega.{arith}
use Rattle.sample_tables.proofs.table.table_form.Goals as goal

pub overflow_mul-width : goal.overflow_mul-width
overflow_mul-width c = omega (arith, width_fits _ _ c.requires c.items.ensures.1)

pub overflow_add-width : goal.overflow_add-width
overflow_add-width c = omega (arith, width_fits _ _ c.requires c.items.ensures.1)

pub returns : goal.returns
returns c = rw c.items.ensures.0 at c.has_form.ensures
