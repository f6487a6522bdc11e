-- The invariant: the lines from entry i on are left.
use Prim.Native.Nat.{◌+◌, ◌*◌, ◌≤◌}
use Rattle.boxes.specs.Containers.{LONGEST}
use Rattle.listing.specs.Listing.{entry_lines}
use Rattle.wire.specs.Writing.{Rest}
use Rattle.movie.specs.Entries.{entries}
use lib.ListN.{length, drop}
use mathlib.Core.Path.{◌≡◌}
use Rattle.listing.proofs.lines.put_entries.Given as goal

abbrev pub invariant-loop-i : goal.invariant-loop-i
invariant-loop-i l =
    (l.n ≡ length (entries l.file)) × (l.n ≤ 4 * LONGEST) × (l.i ≤ l.n) × Rest (entry_lines 1 (entries l.file)) (entry_lines (l.i + 1) (drop l.i (entries l.file))) l.initial.out l.from l.out l.at
    × (l.at ≤ l.from + 120 * l.i)
