use Prim.Native.Nat.{◌+◌, ◌*◌}
use mathlib.Core.Path.{◌≡◌}
use Rattle.boxes.proofs.Wording.{worded_none, worded_last, worded_more}
use native.Mathlib.Omega.{arith}
use Rattle.boxes.proofs.words.reword_all.Goals as goal

pub loop-i-init : goal.loop-i-init
loop-i-init c = worded_none _ _

pub loop-i-preserved : goal.loop-i-preserved
loop-i-preserved c =
    let next : 4 * c.loop-i.i + 4 ≡ 4 * (c.loop-i.i + 1) = omega arith in
    rw (← next) (worded_more _ c.loop-i.invariant (cc) c.put32.ensures (omega arith))

pub returns : goal.returns
returns c = worded_last _ c.loop-i.invariant (omega arith)
