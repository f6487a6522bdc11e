-- Edition and count, and then the slots.
use native.Mathlib.Omega.{arith}
use Rattle.sheet.proofs.Editions.{edition_suits}
use Rattle.wire.proofs.Writing.{pen_then}
use Rattle.sheet_table.proofs.slots.put_front.Goals as goal

pub put_two-a-requires : goal.put_two-a-requires
put_two-a-requires c = (omega arith, (edition_suits _ c.of_count-e.ensures).number, omega arith)

pub returns : goal.returns
returns c = pen_then (rw c.of_count-e.ensures at c.put_two-a.ensures.0) c.put_slots.ensures
