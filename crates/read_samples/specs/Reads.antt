-- "I want to step through a track's samples": where they lie, of any track.
use Rattle.std.specs.Prelude.{ℕ, List, [], ◌∷◌}
use Rattle.codes.specs.Codes.{STSC, STSZ, STCO}
use Rattle.movie.specs.Movie.{sample_table}
use Rattle.rule.specs.Results.{ToWrite}
use Rattle.judge.specs.Calls.{result_on}
use Rattle.read_tracks.specs.Reads.{is_track, track_body}
use Rattle.sample_walk.specs.declared.walk.Sample.{Sample}
use Rattle.sample_walk.specs.Samples.{samples_at}

-- those of the track with payload b
abbrev pub track_samples : List ℕ → List Sample
track_samples b = samples_at (sample_table STSC b) (sample_table STSZ b) (sample_table STCO b)

-- the place and the length of each in turn
unfoldable pub places_of : List Sample → List ℕ
places_of [] = []
places_of (s ∷ l) = s.place ∷ s.bytes ∷ places_of l

-- 20, 25
unfoldable pub samples_result : List ℕ → ℕ → ToWrite
samples_result xs t = result_on xs ((20, is_track xs t) ∷ []) (places_of (track_samples (track_body xs t)))
