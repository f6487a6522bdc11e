-- The clock over `stts`: it stands before an item.
use Rattle.std.specs.Prelude.{ℕ, ◌+◌, ◌≤◌, List}
use Rattle.wire.specs.Tests.{if_lt}
use Rattle.sample_tables.specs.Tables.{Table}
use Rattle.sample_tables.specs.Times.{timed_to, ticks_to, timed, tick_at}
use Rattle.sample_tables.specs.declared.time.MediaTicks.{MediaTicks}
use Rattle.sample_times.specs.declared.clock.Clock.{Clock}
use Rattle.sample_times.specs.declared.clock.Turned.{Turned}
use Rattle.sample_times.specs.declared.clock.Turned.TheVariants.{At, Behind}

-- what it asks of its table
pub record Clocked (stts : List ℕ) : Type 0 where
  pub times : Table 8 stts
  pub few : timed stts ≤ 65536

abbrev pub clock_start : Clock
clock_start = record { item = 0; sample = 0; tick = 0 }

-- before item i: the samples and the ticks of the items before it
unfoldable pub clock_at : List ℕ → ℕ → Clock
clock_at stts i = record { item = i; sample = timed_to stts i; tick = ticks_to stts i }

-- the tick at which sample s starts
abbrev pub start_tick : List ℕ → ℕ → MediaTicks
start_tick stts s = record { 0 = tick_at stts s }

-- before item i, asked for sample s: it is behind where s lies past the item
unfoldable pub turn_of : List ℕ → ℕ → ℕ → Turned
turn_of stts i s = if_lt (timed_to stts (i + 1)) s (Behind (clock_at stts (i + 1))) (At (start_tick stts s))
