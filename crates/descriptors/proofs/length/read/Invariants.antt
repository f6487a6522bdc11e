use Prim.Native.Nat.{◌^◌, ◌<◌}
use mathlib.Core.Path.{◌≡◌}
use Rattle.descriptors.specs.Lengths.{length_at}
use Rattle.descriptors.proofs.Lengths.{left}
use Rattle.descriptors.proofs.length.read.Given as goal

abbrev pub invariant-loop-k : goal.invariant-loop-k
invariant-loop-k l = (l.n < 128 ^ l.k) × (length_at l.part ≡ left l.part l.n l.k)
