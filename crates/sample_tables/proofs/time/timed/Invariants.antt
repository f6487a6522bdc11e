-- The invariant: the sum of the first i counts, each of 32 bits.
use Prim.Native.Nat.{◌*◌, ◌-◌, ◌≤◌}
use Rattle.sample_tables.specs.Tables.{items}
use Rattle.sample_tables.specs.Times.{timed_to}
use mathlib.Core.Path.{◌≡◌}
use Rattle.sample_tables.proofs.time.timed.Given as goal

abbrev pub invariant-loop-i : goal.invariant-loop-i
invariant-loop-i l = (l.n ≡ items l.stts) × (l.i ≤ l.n) × (l.sum ≡ timed_to l.stts l.i) × (l.sum ≤ l.i * 4294967295)
