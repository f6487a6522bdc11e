-- The invariant: a box starts at the walk's place, no number past it was noted, and the index is one.
use Prim.Native.Nat.{◌+◌, ◌-◌, ◌*◌, ◌≤◌, ◌<◌}
use Rattle.mdat.specs.Search.{STRIDE, Start, Index}
use lib.ListN.{length}
use mathlib.Core.Path.{◌≡◌}
use Rattle.mdat.proofs.index.fill.Given as goal

abbrev pub invariant-loop-b : goal.invariant-loop-b
invariant-loop-b l = Start l.file (l.w.at + 1) l.w.at × (length l.index ≡ length l.initial.index) × (l.j < length l.index → l.w.at ≤ STRIDE * l.j) × Index l.file l.index

abbrev pub decreases-loop-b : goal.decreases-loop-b
decreases-loop-b l = length l.file - l.w.at
