use native.Mathlib.Omega.{arith}
use Rattle.outline.proofs.Printing.{hex_none, hex_more}
use Rattle.outline.proofs.line.+put_hex.Goals as goal

pub returns-then-w-eq0 : goal.returns-then-w-eq0
returns-then-w-eq0 t c = (hex_none _ _ _ c.if-w-eq0.true, omega arith)

pub returns : goal.returns
returns t c =
    (hex_more _ _ c.if-w-eq0.false c.put_hex-m.ensures.0 c.digit.ensures.0 c.put_byte.ensures, omega arith)
