-- The invariant: it holds of the tracks before track t.
use Prim.Native.Nat.{◌≤◌}
use Rattle.brands.specs.Brands.{no_avc1_to}
use Rattle.movie.specs.Movie.{tracks}
use mathlib.Core.Path.{◌≡◌}
use mathlib.Core.Bool.{true}
use Rattle.brands.proofs.conditions.no_avc1_in.Given as goal

abbrev pub invariant-loop-t : goal.invariant-loop-t
invariant-loop-t l = (l.n ≡ tracks l.file) × (l.t ≤ l.n) × (no_avc1_to l.file l.t ≡ true)
