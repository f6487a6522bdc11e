-- The invariant: the entries of the first t tracks are written.
use Prim.Native.Nat.{◌+◌, ◌*◌, ◌≤◌}
use mathlib.Core.Path.{◌≡◌}
use Rattle.boxes.specs.Containers.{LONGEST}
use Rattle.movie.specs.Movie.{tracks}
use Rattle.wire.specs.Writing.{Put}
use Rattle.sheet.proofs.Bodies.{up_to}
use Rattle.sheet.proofs.put_bodies.Given as goal

abbrev pub invariant-loop-t : goal.invariant-loop-t
invariant-loop-t l = Put (up_to l.file l.t) l.initial.out l.from l.at l.out × (l.at ≤ l.from + LONGEST * l.t) × (l.t ≤ l.n) × (l.n ≡ tracks l.file)
