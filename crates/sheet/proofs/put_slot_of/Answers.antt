-- What the entry says, as a slot.
use Rattle.sheet.proofs.Slots.{kind_byte, slot_of_lem, part_is}
use native.Mathlib.Omega.{arith}
use Rattle.sheet.proofs.put_slot_of.Goals as goal

pub put_slot-requires : goal.put_slot-requires
put_slot-requires c = (omega arith, omega (arith, c.of_code-kind.ensures, kind_byte c.word32.result), omega arith)

pub returns : goal.returns
returns c = let a = c.args in (slot_of_lem _ a.e (part_is a.file.now a.e.place a.e.span) c.word32.ensures.0 c.of_code-kind.ensures c.put_slot.ensures.0, omega arith)
