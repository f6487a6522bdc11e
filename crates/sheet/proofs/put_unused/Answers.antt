-- As many zeros as the unused slots take.
use Prim.Native.Nat.{ℕ, ◌-◌, ◌*◌}
use native.Mathlib.Omega.{arith}
use mathlib.Core.Path.{◌≡◌}
use lib.ListN.{length-replicate}
use Rattle.wire.proofs.Writing.{pen_is}
use Rattle.sheet.specs.Sheet.{SLOTS, SLOT}
use Rattle.sheet.proofs.Writing.{zeros_first}
use Rattle.sheet.proofs.put_unused.Goals as goal

pub returns : goal.returns
returns c = let n = c.args.n in
    let z : SLOT * n - 0 ≡ SLOT * n = omega arith in
    let p = pen_is (rw z (zeros_first (SLOT * n) (SLOT * SLOTS) (omega arith))) c.put_part.ensures in
    (p, omega (arith, p.next, length-replicate {A = ℕ} (SLOT * n) 0))
