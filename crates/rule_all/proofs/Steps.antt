-- A step of the walk over the tracks, from where the boxes of the next one stand; and a file in doubt. Assumes nothing.
use Prim.Native.Nat.{ℕ, ◌+◌, ◌≤◌, ◌<◌}
use native.Mathlib.Omega.{arith}
use mathlib.Core.Path.{◌≡◌}
use mathlib.Core.List.{List}
use Rattle.movie.specs.Movie.{tracks}
use Rattle.layout.specs.declared.gather.Slot.{Slot}
use Rattle.layout.specs.declared.track.Track.{Track}
use Rattle.layout.specs.declared.tracks.Movie.{Movie}
use Rattle.layout.specs.declared.every.ReadTrack.{ReadTrack}
use Rattle.layout.specs.Slots.{slot_in, Lies}
use Rattle.layout.specs.Track.{Shaped, Laid, StsdPlaced}
use Rattle.layout.specs.Tracks.{track_slot, LaidOut, Spread}
use Rattle.layout.specs.Every.{told_in, TrackAt}
use Rattle.layout.proofs.LayingOut.{slot_at}
use Rattle.layout.proofs.Everything.{trak_at, told_at, track_read}
use Rattle.rule_all.specs.declared.SoFar.{SoFar}
use Rattle.rule_all.specs.declared.SureTracks.{SureTracks}
use Rattle.rule_all.specs.declared.TrackSays.{TrackSays}
use Rattle.rule_all.specs.All.{SureBefore}
use Rattle.rule_all.specs.Track.{SaysOf}
use Rattle.rule_all.specs.Tracks.{SureWith, Joined, Tracked, TracksTold}
use Rattle.rule_all.proofs.All.{sure_before_none}
use Rattle.rule_all.proofs.Judging.{judged}
use Rattle.rule_all.proofs.Running.{Run, run_more, run_broken}

module _ {xs : List ℕ} {m : Movie} (l : LaidOut xs m) {i : ℕ} (h : i < 4) {s : Slot} (e : s ≡ track_slot m i) where
  pub track_lies : Lies xs s
  track_lies = rw e (slot_at l i h).lies

  module _ (n : i < tracks xs) {k : Track} (a : Laid xs (slot_in xs s) k) where
    pub step : Shaped (slot_in xs s) → tracks xs ≤ 4 → {p : SoFar} → Run xs i p → {t : TrackSays} → SaysOf xs k t → {r : SoFar} → Joined p i t r → 10 ≤ r.sure → Run xs (i + 1) r
    step z four g u j q = run_more g n four (rw (e, (slot_at l i h).is) at (judged a z u)) j q

    pub step_told : Spread xs m → StsdPlaced xs s k → {v : ReadTrack} → v ≡ told_in xs k → TrackAt xs i v
    step_told w b q = rw q (track_read (trak_at l w i h) n (rw e at (told_at a b)))

-- an answer of 2 says nothing of a step
pub no_step : (p : SoFar) (i : ℕ) (t : TrackSays) → SureWith p i t 2
no_step p i t =
    record {
      good = λ z. absurd (omega arith);
      least = λ z. absurd (omega arith);
      few = λ z. absurd (omega arith);
      first = λ z. absurd (omega arith);
      second = λ z. absurd (omega arith);
      third = λ z. absurd (omega arith);
    }

-- nor of a file
module _ {xs : List ℕ} {r : SureTracks} (e : r.sure ≡ 2) where
  no_tracks : TracksTold xs r
  no_tracks = record { tracks = λ h. absurd (omega arith) }

  pub untold : Tracked xs r.sure × TracksTold xs r
  untold = (rw e (run_broken xs), no_tracks)

  pub unsure : SureBefore xs r.sure × TracksTold xs r
  unsure = (rw e (sure_before_none xs), no_tracks)
