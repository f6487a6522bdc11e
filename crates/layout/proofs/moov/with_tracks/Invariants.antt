-- The invariant: each slot is that of the boxes before the walk's place, which are plain; those of the tracks have one count.
use mathlib.Core.Bool.{true}
use Prim.Native.Nat.{◌-◌}
use Rattle.layout.proofs.Gathering.{Walked}
use Rattle.layout.specs.Slots.{first_with}
use Rattle.layout.specs.Tracks.{wanted, slot_with}
use lib.ListN.{length}
use Rattle.layout.proofs.moov.with_tracks.Given as goal

abbrev pub invariant-loop-x : goal.invariant-loop-x
invariant-loop-x l =
    Walked l.file l.part l.moov l.w.at true (first_with l.code) (wanted 0) (wanted 1) (wanted 2) (wanted 3) l.i (slot_with l.f.n l.f.one) (slot_with l.f.n l.f.two)
    (slot_with l.f.n l.f.three) (slot_with l.f.n l.f.four)

abbrev pub decreases-loop-x : goal.decreases-loop-x
decreases-loop-x l = length l.part - l.w.at
