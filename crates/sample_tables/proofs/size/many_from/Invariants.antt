-- The invariant: the bytes of the first 4 i samples, each size of 32 bits.
use Prim.Native.Nat.{◌*◌, ◌/◌, ◌≤◌}
use Rattle.sample_tables.specs.Sizes.{bytes_from}
use mathlib.Core.Path.{◌≡◌}
use Rattle.sample_tables.proofs.size.many_from.Given as goal

abbrev pub invariant-loop-i : goal.invariant-loop-i
invariant-loop-i l = (l.i ≤ l.n / 4) × (l.sum ≡ bytes_from l.stsz l.first (4 * l.i)) × (l.sum ≤ 4 * l.i * 4294967295)
