use native.Mathlib.Omega.{arith}
use Rattle.descriptors.proofs.Shortest.{put_none, put_one_more}
use Rattle.descriptors.proofs.length.+put_more.Goals as goal

pub returns-then-w-eq0 : goal.returns-then-w-eq0
returns-then-w-eq0 t c = (put_none _ _ _ c.if-w-eq0.true, omega arith)

pub returns : goal.returns
returns t c =
    (put_one_more _ _ c.if-w-eq0.false c.put_more-m.ensures.0 c.put_byte.ensures, omega arith)
