use Rattle.sheet.proofs.Slots.{kind_byte}
use Rattle.sheet_table.proofs.Slotting.{first_put}
use native.Mathlib.Omega.{arith}
use Rattle.sheet_table.proofs.slots.put_first.Goals as goal

pub put_slot-requires : goal.put_slot-requires
put_slot-requires c = (omega arith, omega (arith, c.of_code-kind.ensures, kind_byte c.word32.result), omega arith)

pub returns : goal.returns
returns c = (first_put _ _ c.of_code-kind.ensures c.word32.ensures.0 c.body-first.ensures c.byte.ensures.0 c.word32-2.ensures.0 c.put_slot.ensures.0, omega arith)
