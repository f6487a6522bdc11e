-- Its four bytes, or a number.
use native.Mathlib.Omega.{arith}
use Rattle.wire.proofs.Writing.{pen_then, pen_is}
use Rattle.outline.proofs.Printing.{code_stands, code_hex}
use Rattle.outline.proofs.line.put_code.Goals as goal

pub returns-then-all_print : goal.returns-then-all_print
returns-then-all_print c =
    (pen_is (code_stands _ c.all_print.ensures c.if-all_print.true) c.put_number.ensures.0, omega arith)

pub returns : goal.returns
returns c =
    (pen_is (code_hex _ c.all_print.ensures c.if-all_print.false) (pen_then c.put_part-m.ensures c.put_hex.ensures.0), omega arith)
