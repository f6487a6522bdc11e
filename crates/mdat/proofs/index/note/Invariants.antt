-- The invariant: numbers from `from` to j were noted, and an index is still one.
use Prim.Native.Nat.{ℕ, ◌+◌, ◌-◌, ◌≤◌}
use Rattle.mdat.specs.Search.{Start, Index}
use lib.ListN.{length}
use mathlib.Core.List.{List}
use mathlib.Core.Path.{◌≡◌}
use Rattle.mdat.proofs.index.note.Given as goal

abbrev pub invariant-loop-j : goal.invariant-loop-j
invariant-loop-j l = (length l.index ≡ length l.initial.index) × (l.from ≤ l.j) × ((xs : List ℕ) → Start xs (l.at + 1) l.at → Index xs l.initial.index → Index xs l.index)
