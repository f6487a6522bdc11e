-- A small file of a `free` and an `mdat`, with one chunk of two samples: what its definitions come to.
use Prim.Native.Nat.{ℕ}
use mathlib.Core.Path.{◌≡◌, refl}
use mathlib.Core.Bool.{Bool, true, false}
use mathlib.Core.List.{List, [], ◌∷◌, ◌++◌}
use Rattle.wire.specs.Tests.{if_eq, if_lt, if_le}
use Rattle.wire.specs.Numbers.{bytes_on, bytes, word}
use Rattle.wire.specs.Sums.{sum_to, all_to}
use Rattle.wire.specs.Clauses.{is_eq, is_le, every}
use Rattle.wire.specs.Text.{text}
use Rattle.boxes.specs.Boxes.{whole, boxes, form_of}
use Rattle.sample_tables.specs.Sizes.{size_at, bytes_from}
use Rattle.sample_tables.specs.Runs.{run_among, run_of}
use Rattle.sample_tables.specs.Chunks.{samples_in, first_sample, description_of, chunk_at, extent_of}
use Rattle.sample_walk.specs.Samples.{join_to, chunk_samples, samples_at}
use Rattle.mdat.specs.Payloads.{in_box, past, resolve, place_of}
use Rattle.mdat.specs.Relocate.{relocate}
use Rattle.mdat.specs.Rules.{lies, chunk_in, chunks_in, chunks_lie}
use Rattle.mdat.specs.Samples.{samples_of}

abbrev media : List ℕ
media = bytes 4 13 ++ (text "mdat" ++ (1 ∷ 2 ∷ 3 ∷ 4 ∷ 5 ∷ []))

abbrev file : List ℕ
file = bytes 4 12 ++ (text "free" ++ (bytes 4 0 ++ media))

abbrev stsc : List ℕ
stsc = bytes 4 0 ++ (bytes 4 1 ++ (bytes 4 1 ++ (bytes 4 2 ++ bytes 4 1)))

abbrev stsz : List ℕ
stsz = bytes 4 0 ++ (bytes 4 0 ++ (bytes 4 2 ++ (bytes 4 2 ++ bytes 4 3)))

abbrev stco : ℕ → List ℕ
stco o = bytes 4 0 ++ (bytes 4 1 ++ bytes 4 o)

-- each sample whole, one behind the other
samples : samples_of file stsc stsz (stco 20) ≡ (1 ∷ 2 ∷ []) ∷ (3 ∷ 4 ∷ 5 ∷ []) ∷ []
unfolding samples_of samples_at join_to chunk_samples chunk_at samples_in first_sample description_of run_of run_among size_at bytes_from sum_to word bytes bytes_on if_eq if_le
samples = refl

abbrev eight_at : ℕ → Bool
eight_at o = chunks_lie (boxes file) stsc stsz (stco o)

-- rule 8: the chunk a byte early, in its place, a byte late
chunks : eight_at 19 ∷ eight_at 20 ∷ eight_at 21 ∷ [] ≡ false ∷ true ∷ false ∷ []
unfolding chunks_in all_to chunk_in lies extent_of chunk_at samples_in first_sample description_of run_of run_among size_at bytes_from sum_to boxes whole form_of word bytes bytes_on every is_eq is_le if_eq if_lt if_le
chunks = refl

-- no bytes at the payload's end, and past it
ends : lies (boxes file) 0 25 0 ∷ lies (boxes file) 0 26 0 ∷ [] ≡ true ∷ false ∷ []
unfolding lies boxes whole form_of word bytes bytes_on every is_eq is_le if_eq if_le
ends = refl

-- without the first box the payload is 12 bytes nearer
nearer : relocate (boxes file) (boxes media) 20 ≡ 8
unfolding relocate resolve in_box past place_of boxes whole form_of word bytes bytes_on if_eq if_lt if_le
nearer = refl
