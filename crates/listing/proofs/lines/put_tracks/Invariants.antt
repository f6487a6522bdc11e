-- The invariant: the lines of the first t tracks are written.
use Prim.Native.Nat.{◌+◌, ◌*◌, ◌≤◌}
use Rattle.listing.specs.Listing.{track_lines}
use Rattle.movie.specs.Movie.{tracks}
use Rattle.wire.specs.Writing.{Put}
use mathlib.Core.Path.{◌≡◌}
use Rattle.listing.proofs.lines.put_tracks.Given as goal

abbrev pub invariant-loop-t : goal.invariant-loop-t
invariant-loop-t l = (l.n ≡ tracks l.file) × (tracks l.file ≤ 4) × (l.t ≤ l.n) × Put (track_lines l.file l.t) l.initial.out l.from l.at l.out × (l.at ≤ l.from + 100 * l.t)
