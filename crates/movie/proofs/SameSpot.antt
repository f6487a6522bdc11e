-- Two spots that are the same are in one track and have one number there. Assumes nothing.
use Rattle.std.specs.Prelude.{Option, Some, None}
use Prim.Native.Nat.{ℕ}
use mathlib.Core.Path.{◌≡◌, ap}
use Rattle.movie.specs.declared.entry.Spot.{Spot}
use Rattle.movie.specs.Named.{In}

abbrev track_of_spot : Option Spot → ℕ
track_of_spot None = 0
track_of_spot (Some s) = s.track

abbrev nth_of_spot : Option Spot → ℕ
nth_of_spot None = 0
nth_of_spot (Some s) = s.nth

module _ {t n u m : ℕ} (e : In t n ≡ In u m) where
  pub same_track : t ≡ u
  same_track = ap track_of_spot e

  pub same_nth : n ≡ m
  same_nth = ap nth_of_spot e
