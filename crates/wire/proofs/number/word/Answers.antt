-- Nothing where they don't all lie inside.
use Rattle.wire.proofs.Numbers.{word_out}
use Prim.Native.Nat.{◌+◌, ◌<◌}
use lib.ListN.{length}
use mathlib.Core.Path.{sym}
use native.Mathlib.Nat.{one-le-pow}
use native.Mathlib.Omega.{arith}
use Rattle.wire.proofs.number.word.Goals as goal
use Rattle.wire.proofs.number.word.Goals.{else-at-part-via-then-at-part+else-part-at, else-at-part-via-else-at-part}

pub returns : goal.returns
returns g c =
    let out : length c.args.part.now < c.args.at + g.row.W = elim c.else-at-part.branch [
      | else-at-part-via-then-at-part+else-part-at w ↦ omega (arith, w.if-at-part.true, w.if-part-at.false)
      | else-at-part-via-else-at-part w ↦ omega (arith, w.if-at-part.false)
    ] in
    (sym (word_out g.row.W _ _ out), one-le-pow g.row.W 256 (omega arith))
