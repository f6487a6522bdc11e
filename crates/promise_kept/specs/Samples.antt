-- The samples of a track of a file.
use Rattle.std.specs.Prelude.{ℕ, List}
use Rattle.codes.specs.Codes.{STSC, STSZ, STCO}
use Rattle.mdat.specs.Samples.{samples_of}
use Rattle.movie.specs.Movie.{track, sample_table}

-- those of track t, from 0, byte for byte and in order, cut out of the file's own bytes
unfoldable pub samples : List ℕ → ℕ → List (List ℕ)
samples file t = samples_of file (sample_table STSC (track file t)) (sample_table STSZ (track file t)) (sample_table STCO (track file t))
