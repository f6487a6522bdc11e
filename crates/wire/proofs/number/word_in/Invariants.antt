-- The invariant: the number in the first i of the bytes.
use Prim.Native.Nat.{◌^◌, ◌<◌}
use Rattle.wire.specs.Numbers.{word}
use mathlib.Core.Path.{◌≡◌}
use Rattle.wire.proofs.number.word_in.Given as goal

abbrev pub invariant-loop-i : goal.invariant-loop-i
invariant-loop-i g l = (l.n ≡ word l.i l.part l.at) × (l.n < 256 ^ l.i)
