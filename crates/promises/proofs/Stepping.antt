-- A walk over a track's samples gives their bytes, each in turn and none besides. Assumes nothing.
use Prim.Native.Nat.{ℕ, ◌-◌}
use mathlib.Core.Path.{◌≡◌}
use mathlib.Core.List.{List, map}
use Rattle.mdat.specs.Samples.{sample_bytes, samples_of}
use Rattle.sample_walk.specs.declared.walk.Sample.{Sample}
use Rattle.read_samples.specs.declared.stand.Stand.{Stand}
use Rattle.read_samples.specs.Stands.{Starts, Turns}
use Rattle.read_samples.proofs.Turns.{turns_all}
use Rattle.promise_kept.specs.Samples.{samples}

-- tracks are numbered from 1 in calls, and from 0 in definitions
pub steps_through : (file : List ℕ) (t : ℕ) (at : Stand) → Starts file t at → (l : List Sample) → Turns file at l → map (sample_bytes file) l ≡ samples file (t - 1)
unfolding samples samples_of
steps_through file t at s l r = rw (turns_all file t at s l r)
