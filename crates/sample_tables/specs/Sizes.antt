-- `stsz`: the common size of the samples at 4, their count at 8, and where the common size is 0 a table of sizes.
use Rattle.std.specs.Prelude.{ℕ, ◌+◌, ◌-◌, ◌*◌, ◌/◌, ◌≤◌, Bool, ◌≡◌, List, length}
use Rattle.wire.specs.Tests.{if_eq}
use Rattle.wire.specs.Numbers.{word}
use Rattle.wire.specs.Sums.{sum_to}
use Rattle.sample_tables.specs.Tables.{has_form, Form}

abbrev pub common : List ℕ → ℕ
common stsz = word 4 stsz 4

-- the sample count
abbrev pub sample_count : List ℕ → ℕ
sample_count stsz = word 4 stsz 8

-- the sizes in the table
unfoldable pub sizes_listed : List ℕ → ℕ
sizes_listed stsz = if_eq (common stsz) 0 (sample_count stsz) 0

-- rule 6: "stsz is 12, with 4n more when its common size is 0"
abbrev pub sizes_form : List ℕ → Bool
sizes_form stsz = has_form (12 + 4 * sizes_listed stsz) stsz

abbrev pub Sizes : List ℕ → Type 0
Sizes stsz = Form (12 + 4 * sizes_listed stsz) stsz

-- the size of sample j, from 0
unfoldable pub size_at : List ℕ → ℕ → ℕ
size_at stsz j = if_eq (common stsz) 0 (word 4 stsz (12 + 4 * j)) (common stsz)

-- the bytes of n samples from the given one on, laid end to end
unfoldable pub bytes_from : List ℕ → ℕ → ℕ → ℕ
bytes_from stsz first n = sum_to (λ j. size_at stsz (first + j)) n

-- the sum of the four sizes at a place
abbrev pub four_at : List ℕ → ℕ → ℕ
four_at stsz at = word 4 stsz at + word 4 stsz (at + 4) + word 4 stsz (at + 8) + word 4 stsz (at + 12)

-- what reading the sizes of n samples from the given one on asks: they are there
pub record Held (stsz : List ℕ) (first n : ℕ) : Type 0 where
  pub few : first + n ≤ 65536
  pub listed : common stsz ≡ 0 → n ≤ (length stsz - (12 + 4 * first)) / 4
