use Rattle.sample_tables.proofs.Tables.{item_inside}
use native.Mathlib.Omega.{arith}
use Rattle.sample_tables.proofs.table.field.Goals as goal

pub overflow_add-j : goal.overflow_add-j
overflow_add-j c = let p = c.requires in omega (arith, item_inside _ _ _ _ p.0 p.1 p.2)

pub overflow_mul-width : goal.overflow_mul-width
overflow_mul-width c = let p = c.requires in omega (arith, item_inside _ _ _ _ p.0 p.1 p.2)

pub overflow_add-j-2 : goal.overflow_add-j-2
overflow_add-j-2 c = let p = c.requires in omega (arith, item_inside _ _ _ _ p.0 p.1 p.2)

pub word32_in-requires : goal.word32_in-requires
word32_in-requires c = let p = c.requires in item_inside _ _ _ _ p.0 p.1 p.2
