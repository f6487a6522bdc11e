-- Four bytes where they fit.
use Rattle.wire.proofs.Numbers.{length_bytes_lem}
use Rattle.wire.proofs.Writing.{pen_put, pen_past}
use mathlib.Core.Path.{refl}
use native.Mathlib.Omega.{arith}
use Rattle.wire.proofs.pen.put_word.Goals as goal

pub returns-then-r-out : goal.returns-then-r-out
returns-then-r-out c = let a = c.args in
    let l = length_bytes_lem 4 a.n in
    (pen_put _ _ (omega arith) (omega arith) c.put32.ensures, refl)

pub returns : goal.returns
returns c = let l = length_bytes_lem 4 c.args.n in (pen_past _ _ (omega arith) (omega arith), refl)
