-- `stsc`: runs of chunks. Each item is the number of the run's first chunk (from 1), its samples per chunk, its description index.
use Rattle.std.specs.Prelude.{ℕ, zero, suc, ◌+◌, ◌-◌, ◌≤◌, ◌<◌, min, Bool, ◌≡◌, List, [], ◌∷◌}
use Rattle.wire.specs.Tests.{if_eq, if_lt, if_le}
use Rattle.wire.specs.Sums.{all_to}
use Rattle.wire.specs.Clauses.{is_eq, is_lt, is_le, every}
use Rattle.sample_tables.specs.Tables.{items, field}

abbrev pub first_chunk : List ℕ → ℕ → ℕ
first_chunk stsc i = field 12 0 stsc i

abbrev pub per_chunk : List ℕ → ℕ → ℕ
per_chunk stsc i = field 12 4 stsc i

abbrev pub description : List ℕ → ℕ → ℕ
description stsc i = field 12 8 stsc i

-- "first chunk numbers start at 1, rise strictly"
unfoldable pub rises : List ℕ → ℕ → Bool
rises stsc i = if_eq i 0 (is_eq (first_chunk stsc i) 1) (is_lt (first_chunk stsc (i - 1)) (first_chunk stsc i))

-- rule 7 of run i: its first chunk number rises and doesn't "pass the chunk count; samples per chunk at least 1; description index 1 to the entry count"
unfoldable pub run_fine : List ℕ → ℕ → ℕ → ℕ → Bool
run_fine stsc chunks descriptions i =
    every
    (rises stsc i
    ∷ is_le (first_chunk stsc i) chunks
    ∷ is_le 1 (per_chunk stsc i)
    ∷ is_le 1 (description stsc i)
    ∷ is_le (description stsc i) descriptions
    ∷ [])

-- of the first n runs
unfoldable pub runs_fine : List ℕ → ℕ → ℕ → ℕ → Bool
runs_fine stsc chunks descriptions n = all_to (run_fine stsc chunks descriptions) n

-- what the walk by chunk goes by
pub record Rising (stsc : List ℕ) : Type 0 where
  pub one : 0 < items stsc → first_chunk stsc 0 ≡ 1
  pub rise : (i : ℕ) → i + 1 < items stsc → first_chunk stsc i < first_chunk stsc (i + 1)

-- and what it finds in each run
pub record Filled (stsc : List ℕ) : Type 0 where
  pub samples : (i : ℕ) → i < items stsc → 1 ≤ per_chunk stsc i
  pub described : (i : ℕ) → i < items stsc → 1 ≤ description stsc i

-- the run of chunk k (from 0): the last of the first n runs that starts at or before it
unfoldable pub run_among : List ℕ → ℕ → ℕ → ℕ
run_among stsc k zero = 0
run_among stsc k (suc n) = if_le (first_chunk stsc n) (k + 1) n (run_among stsc k n)

unfoldable pub run_of : List ℕ → ℕ → ℕ
run_of stsc k = run_among stsc k (items stsc)

-- how many of so many chunks stand before run i, and past the last run all of them
unfoldable pub run_start : List ℕ → ℕ → ℕ → ℕ
run_start stsc chunks i = if_lt i (items stsc) (min (first_chunk stsc i - 1) chunks) chunks
