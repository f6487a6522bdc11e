use Rattle.wire.specs.Writing.{put}
use Prim.Native.Nat.{◌+◌, ◌-◌}
use lib.ListN.{length}
use lib.Seq.{drop-drop}
use mathlib.Core.Path.{◌≡◌}
use native.Mathlib.Omega.{arith}
use Rattle.wire.proofs.pen.copy_at.Goals as goal

pub returns : goal.returns
unfolding put
returns c = let a = c.args in
    let e : a.at + length a.src.now - a.at ≡ length a.src.now = omega arith in
    rw (e, c.copy_from_slice.ensures.after, drop-drop)
