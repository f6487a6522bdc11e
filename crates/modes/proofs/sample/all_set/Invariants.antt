-- The invariant: every frame before the place has its bit.
use Prim.Native.Nat.{◌-◌}
use lib.ListN.{length}
use Rattle.modes.proofs.Bits.{Setting}
use Rattle.modes.proofs.sample.all_set.Given as goal

abbrev pub invariant-loop-size : goal.invariant-loop-size
invariant-loop-size l = Setting l.modes l.codec l.part l.at

abbrev pub decreases-loop-size : goal.decreases-loop-size
decreases-loop-size l = length l.part - l.at
