-- The invariant: a search may start at the walk's place, and no more boxes were passed than bytes.
use Prim.Native.Nat.{◌-◌, ◌≤◌}
use Rattle.mdat.specs.Search.{Start}
use lib.ListN.{length}
use Rattle.mdat.proofs.payload.search.Given as goal

abbrev pub invariant-loop-i : goal.invariant-loop-i
invariant-loop-i l = Start l.file l.offset l.at × (l._i ≤ l.at) × (l._i ≤ length l.file)
