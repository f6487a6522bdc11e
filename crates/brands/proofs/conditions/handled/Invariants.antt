-- The invariant: how many of the first t tracks have handler h.
use Prim.Native.Nat.{◌≤◌}
use Rattle.brands.specs.Brands.{handled_to}
use Rattle.movie.specs.Movie.{tracks}
use mathlib.Core.Path.{◌≡◌}
use Rattle.brands.proofs.conditions.handled.Given as goal

abbrev pub invariant-loop-t : goal.invariant-loop-t
invariant-loop-t l = (l.n ≡ tracks l.file) × (l.t ≤ l.n) × (l.sum ≤ l.t) × (l.sum ≡ handled_to l.h l.file l.t)
