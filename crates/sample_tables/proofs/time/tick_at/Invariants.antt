-- The invariant: the ticks of the samples that the first i items count, and how many are left; each lasts less than 2^32.
use Prim.Native.Nat.{◌+◌, ◌*◌, ◌-◌, ◌≤◌}
use Rattle.sample_tables.specs.Tables.{items}
use Rattle.sample_tables.specs.Times.{timed_to, ticks_of}
use mathlib.Core.Path.{◌≡◌}
use Rattle.sample_tables.proofs.time.tick_at.Given as goal

abbrev pub invariant-loop-i : goal.invariant-loop-i
invariant-loop-i l = (l.n ≡ items l.stts) × (l.i ≤ l.n) × (l.left ≡ l.sample - timed_to l.stts l.i) × (l.sum ≡ ticks_of l.stts l.sample l.i) × (l.sum + l.left * 4294967295 ≤ l.sample * 4294967295)
