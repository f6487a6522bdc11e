-- The invariant: the bytes of the first i samples, each size of 32 bits.
use Prim.Native.Nat.{◌*◌, ◌-◌, ◌≤◌}
use Rattle.sample_tables.specs.Sizes.{bytes_from}
use mathlib.Core.Path.{◌≡◌}
use Rattle.sample_tables.proofs.size.few_from.Given as goal

abbrev pub invariant-loop-i : goal.invariant-loop-i
invariant-loop-i l = (l.i ≤ l.n) × (l.sum ≡ bytes_from l.stsz l.first l.i) × (l.sum ≤ l.i * 4294967295)
