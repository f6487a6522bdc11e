-- The invariant: the first i runs are fine.
use Prim.Native.Nat.{◌-◌, ◌≤◌}
use Rattle.sample_tables.specs.Runs.{runs_fine}
use Rattle.sample_tables.specs.Tables.{items}
use mathlib.Core.Bool.{true}
use mathlib.Core.Path.{◌≡◌}
use Rattle.sample_tables.proofs.run.runs_fine.Given as goal

abbrev pub invariant-loop-i : goal.invariant-loop-i
invariant-loop-i l = (l.n ≡ items l.stsc) × (l.i ≤ l.n) × (runs_fine l.stsc l.chunks l.descriptions l.i ≡ true)
