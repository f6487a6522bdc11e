-- The tracks where they stand, and each of them.
use native.Mathlib.Omega.{arith}
use Rattle.layout.specs.Tracks.{track_slot}
use Rattle.wire.specs.Tests.{if_eq}
use Rattle.layout.proofs.Everything.{trak_at}
use Rattle.layout.proofs.every.lay.Goals as goal

pub track_at-requires : goal.track_at-requires
unfolding track_slot if_eq
track_at-requires c = let l = c.found-m.ensures in (l.0.tracks, trak_at l.0 l.1 0 (omega arith))

pub track_at-requires-2 : goal.track_at-requires-2
unfolding track_slot if_eq
track_at-requires-2 c = let l = c.found-m.ensures in (l.0.tracks, trak_at l.0 l.1 1 (omega arith))

pub track_at-requires-3 : goal.track_at-requires-3
unfolding track_slot if_eq
track_at-requires-3 c = let l = c.found-m.ensures in (l.0.tracks, trak_at l.0 l.1 2 (omega arith))

pub track_at-requires-4 : goal.track_at-requires-4
unfolding track_slot if_eq
track_at-requires-4 c = let l = c.found-m.ensures in (l.0.tracks, trak_at l.0 l.1 3 (omega arith))

pub returns : goal.returns
unfolding track_slot if_eq
returns c = record {
  count = c.found-m.ensures.0.tracks;
  one = c.track_at.ensures;
  two = c.track_at-2.ensures;
  three = c.track_at-3.ensures;
  four = c.track_at-4.ensures;
}
