-- The walk by sample: sample n here, from 0, is sample n + 1 of the paper.
use Rattle.std.specs.Prelude.{ℕ, ◌+◌, ◌-◌, ◌≤◌, ◌<◌, ◌≡◌, List, ◌∷◌, length, drop}
use Rattle.sample_tables.specs.Tables.{items}
use Rattle.sample_tables.specs.Sizes.{bytes_from, sample_count}
use Rattle.sample_tables.specs.Runs.{Filled}
use Rattle.sample_tables.specs.Chunks.{first_sample, samples_over, offset_at, description_of, walk_start, walk_at, Walkable}
use Rattle.sample_walk.specs.declared.walk.Sample.{Sample}
use Rattle.sample_walk.specs.declared.walk.SampleWalk.{SampleWalk}
use Rattle.std.specs.declared.option.Option.{Option}
use Rattle.std.specs.declared.option.Option.TheVariants.{Some, None}
use Rattle.sample_walk.specs.Samples.{samples_at}

-- what the walk asks of its tables: rules 6 and 7 give it
pub record Sampled (stsc stsz stco : List ℕ) : Type 0 where
  pub walk : Walkable stsc stco
  pub filled : Filled stsc
  pub total : samples_over stsc (items stco) ≡ sample_count stsz
  pub few : sample_count stsz ≤ 65536

abbrev pub sample_start : SampleWalk
sample_start = record { number = 0; chunks = walk_start; place = 0; description = 0 }

-- it stands inside chunk k
pub record InChunk (stsc stsz stco : List ℕ) (k : ℕ) (w : SampleWalk) : Type 0 where
  pub chunk : w.chunks.chunk ≡ k + 1
  pub from : first_sample stsc k ≤ w.number
  pub place : w.place ≡ offset_at stco k + bytes_from stsz (first_sample stsc k) (w.number - first_sample stsc k)
  pub description : w.description ≡ description_of stsc k

-- where it may stand: inside the last chunk that it has passed, or past that chunk's last sample
pub record Before (stsc stsz stco : List ℕ) (w : SampleWalk) : Type 0 where
  pub chunks : w.chunks ≡ walk_at stsc w.chunks.chunk
  pub few : w.chunks.chunk ≤ items stco
  pub most : w.number ≤ first_sample stsc w.chunks.chunk
  pub inside : w.number < first_sample stsc w.chunks.chunk → InChunk stsc stsz stco (w.chunks.chunk - 1) w

-- ---- a step from before sample n

-- it gives the samples in turn, each of them as it lies
pub record Gives (stsc stsz stco : List ℕ) (n : ℕ) (s : Sample) (w : SampleWalk) : Type 0 where
  pub is : drop n (samples_at stsc stsz stco) ≡ s ∷ drop (n + 1) (samples_at stsc stsz stco)
  pub described : 1 ≤ s.description
  pub number : w.number ≡ n + 1
  pub walk : Before stsc stsz stco w

-- and then the end
unfoldable pub StepAs : (stsc stsz stco : List ℕ) → ℕ → Option (Sample × SampleWalk) → Type 0
StepAs stsc stsz stco n (Some r) = Gives stsc stsz stco n r.0 r.1
StepAs stsc stsz stco n None = length (samples_at stsc stsz stco) ≡ n
