-- The invariant: k chunks stand before run i, and sum counts their samples.
use Prim.Native.Nat.{◌-◌, ◌≤◌}
use Rattle.sample_tables.specs.Chunks.{first_sample}
use Rattle.sample_tables.specs.Runs.{run_start}
use Rattle.sample_tables.specs.Tables.{items}
use mathlib.Core.Path.{◌≡◌}
use Rattle.sample_tables.proofs.chunk.samples_over.Given as goal

abbrev pub invariant-loop-i : goal.invariant-loop-i
invariant-loop-i l = (l.n ≡ items l.stsc) × (l.i ≤ l.n) × (l.k ≡ run_start l.stsc l.chunks l.i) × (l.sum ≡ first_sample l.stsc l.k)
