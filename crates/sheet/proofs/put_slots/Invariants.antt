-- The invariant: the slots of the first i entries are written.
use Prim.Native.Nat.{◌+◌, ◌*◌, ◌≤◌}
use Rattle.movie.specs.Entries.{entries}
use Rattle.sheet.specs.Sheet.{slots}
use Rattle.wire.specs.Writing.{Put}
use lib.ListN.{take}
use Rattle.sheet.proofs.put_slots.Given as goal

abbrev pub invariant-loop-i : goal.invariant-loop-i
invariant-loop-i l = Put (slots (take l.i (entries l.file))) l.initial.out l.from l.at l.out × (l.at ≤ l.from + 12 * l.i) × (l.i ≤ l.n)
