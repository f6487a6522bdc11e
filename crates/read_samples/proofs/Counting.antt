-- The numbers of a track's samples, by the tables as they are read. Assumes nothing.
use Prim.Native.Nat.{ℕ, ◌*◌}
use native.Mathlib.Omega.{arith}
use mathlib.Core.Path.{◌≡◌}
use mathlib.Core.List.{List}
use lib.ListN.{length}
use Rattle.wire.specs.Writing.{Wrote}
use Rattle.codes.specs.Codes.{STSC, STSZ, STCO}
use Rattle.movie.specs.Movie.{sample_table}
use Rattle.sample_tables.specs.Sizes.{sample_count}
use Rattle.sample_walk.specs.Samples.{samples_at}
use Rattle.sample_walk.specs.Walks.{Sampled}
use Rattle.sample_walk.proofs.Walks.{samples_length}
use Rattle.read_samples.specs.Reads.{track_samples, places_of}
use Rattle.read_samples.proofs.Tables.{Walked}
use Rattle.read_samples.proofs.Numbers.{numbers_length}

-- as many samples as `stsz` counts
pub samples_count : (stsc stsz stco : List ℕ) → Sampled stsc stsz stco → length (samples_at stsc stsz stco) ≡ sample_count stsz
samples_count stsc stsz stco s = omega (arith, samples_length stsc stsz stco, s.total)

-- of the track with payload b
module _ (b : List ℕ) {stsc stsz stco : List ℕ} (e : stsc ≡ sample_table STSC b) (g : stsz ≡ sample_table STSZ b) (h : stco ≡ sample_table STCO b) where
  pub found_walked : Walked b → Sampled stsc stsz stco
  found_walked s = rw (e, g, h) s

  pub found_wrote : {out after : List ℕ} {n : ℕ} → Wrote (places_of (samples_at stsc stsz stco)) out n after → Wrote (places_of (track_samples b)) out n after
  found_wrote w = rw (e, g, h) at w

pub found_count : (b : List ℕ) {stsz : List ℕ} → Walked b → stsz ≡ sample_table STSZ b → {n : ℕ} → n ≡ sample_count stsz
    → 2 * n ≡ length (places_of (track_samples b))
found_count b s g e =
    let z = rw g at e in
    omega (arith, samples_count _ _ _ s, numbers_length (track_samples b))
