-- `stts`: each item is a count of samples and the ticks that each of them lasts.
use Rattle.std.specs.Prelude.{ℕ, ◌*◌, ◌-◌, min, List}
use Rattle.wire.specs.Sums.{sum_to}
use Rattle.sample_tables.specs.Tables.{items, field}

abbrev pub counted : List ℕ → ℕ → ℕ
counted stts i = field 8 0 stts i

abbrev pub delta : List ℕ → ℕ → ℕ
delta stts i = field 8 4 stts i

-- the samples and the ticks of the first n items
unfoldable pub timed_to : List ℕ → ℕ → ℕ
timed_to stts n = sum_to (counted stts) n

unfoldable pub ticks_to : List ℕ → ℕ → ℕ
ticks_to stts n = sum_to (λ i. counted stts i * delta stts i) n

-- the samples that it counts
abbrev pub timed : List ℕ → ℕ
timed stts = timed_to stts (items stts)

-- a track's length: "sum of stts count times delta"
abbrev pub media_ticks : List ℕ → ℕ
media_ticks stts = ticks_to stts (items stts)

-- how many of the first s samples item i counts
abbrev pub counted_of : List ℕ → ℕ → ℕ → ℕ
counted_of stts s i = min (counted stts i) (s - timed_to stts i)

-- the ticks of those that the first n items count
unfoldable pub ticks_of : List ℕ → ℕ → ℕ → ℕ
ticks_of stts s n = sum_to (λ i. counted_of stts s i * delta stts i) n

-- the tick at which sample s starts, from 0: the deltas of all samples before it
abbrev pub tick_at : List ℕ → ℕ → ℕ
tick_at stts s = ticks_of stts s (items stts)
