-- The walk by chunk with its clock.
use Rattle.std.specs.Prelude.{ℕ, ◌+◌, ◌≤◌, ◌≡◌, List}
use Rattle.wire.specs.Tests.{if_lt}
use Rattle.sample_tables.specs.Tables.{items}
use Rattle.sample_tables.specs.Times.{timed_to, timed}
use Rattle.sample_tables.specs.Chunks.{first_sample, samples_over, chunk_at, walk_start, walk_at, Walkable}
use Rattle.sample_times.specs.declared.walk.TimedWalk.{TimedWalk}
use Rattle.sample_times.specs.declared.walk.TimedStep.{TimedStep}
use Rattle.sample_times.specs.declared.walk.TimedStep.TheVariants.{Found, Ticking, End}
use Rattle.sample_times.specs.Clocks.{Clocked, clock_start, clock_at, start_tick}

-- what the walk asks of its tables: rules 6 and 7 give it
pub record Playable (stts stsc stco : List ℕ) : Type 0 where
  pub clock : Clocked stts
  pub walk : Walkable stsc stco
  pub total : samples_over stsc (items stco) ≡ timed stts

abbrev pub timed_start : TimedWalk
timed_start = record { walk = walk_start; clock = clock_start }

-- the walk before chunk k, its clock before item i
abbrev pub timed_at : List ℕ → List ℕ → ℕ → ℕ → TimedWalk
timed_at stts stsc i k = record { walk = walk_at stsc k; clock = clock_at stts i }

-- where the walk may stand: its clock isn't past the chunk's first sample
pub record Timed (stts stsc : List ℕ) (w : TimedWalk) : Type 0 where
  pub is : w ≡ timed_at stts stsc w.clock.item w.walk.chunk
  pub item : w.clock.item ≤ items stts
  pub before : timed_to stts w.clock.item ≤ first_sample stsc w.walk.chunk

-- a step from before chunk k, with the clock before item i
unfoldable pub timed_step : (stts stsc stco : List ℕ) → ℕ → ℕ → TimedStep
timed_step stts stsc stco i k =
    if_lt k (items stco)
    (if_lt (timed_to stts (i + 1)) (first_sample stsc k) (Ticking (timed_at stts stsc (i + 1) k))
    (Found (chunk_at stsc stco k) (start_tick stts (first_sample stsc k)) (timed_at stts stsc i (k + 1))))
    End
