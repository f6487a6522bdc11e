-- The samples of a track, byte for byte and in order, cut out of the file's own bytes.
use Rattle.std.specs.Prelude.{ℕ, List, map, take, drop}
use Rattle.sample_walk.specs.declared.walk.Sample.{Sample}
use Rattle.sample_walk.specs.Samples.{samples_at}

abbrev pub sample_bytes : List ℕ → Sample → List ℕ
sample_bytes file s = take s.bytes (drop s.place file)

unfoldable pub samples_of : (file stsc stsz stco : List ℕ) → List (List ℕ)
samples_of file stsc stsz stco = map (sample_bytes file) (samples_at stsc stsz stco)
