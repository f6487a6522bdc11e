-- The invariant: the first i numbers stand at the front.
use Prim.Native.Nat.{◌≤◌}
use Rattle.read_tracks.specs.Reads.{offsets_to}
use Rattle.sample_tables.specs.Tables.{items}
use lib.ListN.{length, drop}
use mathlib.Core.List.{◌++◌}
use mathlib.Core.Path.{◌≡◌}
use Rattle.read_tracks.proofs.offset.put.Given as goal

abbrev pub invariant-loop-i : goal.invariant-loop-i
invariant-loop-i l = (l.n ≡ items l.stco) × (l.i ≤ l.n) × (l.n ≤ length l.initial.list) × (length l.list ≡ length l.initial.list) × (l.list ≡ offsets_to l.stco l.i ++ drop l.i l.initial.list)
