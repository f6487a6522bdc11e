-- A track of an accepted file: where it stands, and what its tables are, the facts that reading them goes by.
use Rattle.std.specs.Prelude.{ℕ, ◌≤◌, ◌≡◌, true, false, List, Option, Some, None}
use Rattle.codes.specs.Codes.{STTS, STCO}
use Rattle.sample_tables.specs.Tables.{Table}
use Rattle.sample_tables.specs.Times.{timed}
use Rattle.movie.specs.Movie.{tracks, sample_table}
use Rattle.layout.specs.Track.{Laid}
use Rattle.layout.specs.declared.track.Track.{Track}
use Rattle.read_tracks.specs.Reads.{is_track, track_body}

-- of the track with payload b
pub record Readable (b : List ℕ) : Type 0 where
  pub times : Table 8 (sample_table STTS b)
  pub few : timed (sample_table STTS b) ≤ 65536
  pub offsets : Table 4 (sample_table STCO b)

-- the track of number t, from 1, is there, and k says where its boxes stand
pub record Numbered (xs : List ℕ) (t : ℕ) (k : Track) : Type 0 where
  pub there : is_track xs t ≡ true
  pub first : 1 ≤ t
  pub last : t ≤ tracks xs
  pub laid : Laid xs (track_body xs t) k

unfoldable pub NumberedAs : List ℕ → ℕ → Option Track → Type 0
NumberedAs xs t (Some k) = Numbered xs t k
NumberedAs xs t None = is_track xs t ≡ false
