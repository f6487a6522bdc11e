-- The invariant: the sum of the first i products.
use Prim.Native.Nat.{◌-◌, ◌≤◌}
use Rattle.sample_tables.specs.Tables.{items}
use Rattle.sample_tables.specs.Times.{ticks_to}
use mathlib.Core.Path.{◌≡◌}
use Rattle.sample_tables.proofs.time.media_ticks.Given as goal

abbrev pub invariant-loop-i : goal.invariant-loop-i
invariant-loop-i l = (l.n ≡ items l.stts) × (l.i ≤ l.n) × (l.sum ≡ ticks_to l.stts l.i)
