-- The tables of a track of an accepted file, as they are found, can be walked over. Assumes nothing.
use Prim.Native.Nat.{ℕ, ◌-◌, ◌<◌}
use native.Mathlib.Omega.{arith}
use mathlib.Core.Path.{◌≡◌, ◌∙◌}
use mathlib.Core.List.{List}
use Rattle.codes.specs.Codes.{STSC, STSZ, STCO}
use Rattle.sample_tables.proofs.Rules.{seven_is}
use Rattle.sample_walk.specs.Walks.{Sampled}
use Rattle.sample_walk.proofs.Walks.{sampled}
use Rattle.movie.specs.Ways.{follow}
use Rattle.movie.specs.Movie.{tracks, track, sample_table}
use Rattle.layout.specs.Slots.{slot_in}
use Rattle.layout.specs.Track.{Laid}
use Rattle.layout.specs.declared.track.Track.{Track}
use Rattle.rule_tracks.proofs.Chunked.{stbl_six, stbl_seven}
use Rattle.judge.specs.Acceptance.{Meets}
use Rattle.judge.proofs.Tables.{track_chunked}
use Rattle.read_tracks.specs.Reads.{track_body}
use Rattle.read_tracks.specs.Tracks.{Numbered}

-- of the track with payload b
abbrev pub Walked : List ℕ → Type 0
Walked b = Sampled (sample_table STSC b) (sample_table STSZ b) (sample_table STCO b)

track_walked : (xs : List ℕ) → Meets xs → (t : ℕ) → t < tracks xs → Walked (track xs t)
unfolding sample_table follow
track_walked xs m t k =
    let c = track_chunked xs m t k in
    sampled _ _ _ _ (seven_is _ _ _ _ _ (stbl_six c) (stbl_seven c))

pub numbered_walked : (xs : List ℕ) (t : ℕ) → Meets xs → {k : Track} → Numbered xs t k → Walked (track_body xs t)
numbered_walked xs t m n = track_walked xs m (t - 1) (omega (arith, n.first, n.last))

-- as they are read
module _ {xs b : List ℕ} {k : Track} (l : Laid xs b k) where
  pub laid_runs : {ys : List ℕ} → ys ≡ slot_in xs k.stsc → ys ≡ sample_table STSC b
  unfolding sample_table
  laid_runs e = e ∙ l.stsc.is

  pub laid_sizes : {ys : List ℕ} → ys ≡ slot_in xs k.stsz → ys ≡ sample_table STSZ b
  unfolding sample_table
  laid_sizes e = e ∙ l.stsz.is
