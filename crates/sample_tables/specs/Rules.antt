-- Rules 6 and 7 of a track's tables.
use Rattle.std.specs.Prelude.{ℕ, ◌≤◌, Bool, ◌≡◌, List, [], ◌∷◌}
use Rattle.wire.specs.Tests.{if_eq}
use Rattle.wire.specs.Clauses.{is_eq, is_le, every}
use Rattle.sample_tables.specs.Tables.{items, Table}
use Rattle.sample_tables.specs.Times.{timed}
use Rattle.sample_tables.specs.Sizes.{sample_count, Sizes}
use Rattle.sample_tables.specs.Runs.{runs_fine, Filled}
use Rattle.sample_tables.specs.Chunks.{samples_over, Walkable}

-- rule 6: the four tables have their forms
pub record Six (stts stsc stsz stco : List ℕ) : Type 0 where
  pub times : Table 8 stts
  pub runs : Table 12 stsc
  pub sizes : Sizes stsz
  pub offsets : Table 4 stco

-- "With no chunks stsc is empty and there are no samples. With chunks stsc isn't empty."
unfoldable pub empty_together : ℕ → ℕ → ℕ → Bool
empty_together chunks runs n = if_eq chunks 0 (every (is_eq runs 0 ∷ is_eq n 0 ∷ [])) (is_le 1 runs)

-- rule 7, with the count of the track's sample descriptions
unfoldable pub tables_agree : (stts stsc stsz stco : List ℕ) → ℕ → Bool
tables_agree stts stsc stsz stco descriptions =
    every
    (is_le (sample_count stsz) 65536
    ∷ is_eq (timed stts) (sample_count stsz)
    ∷ runs_fine stsc (items stco) descriptions (items stsc)
    ∷ is_eq (samples_over stsc (items stco)) (sample_count stsz)
    ∷ empty_together (items stco) (items stsc) (sample_count stsz)
    ∷ [])

-- what it says
pub record Seven (stts stsc stsz stco : List ℕ) : Type 0 where
  pub few : sample_count stsz ≤ 65536
  pub timely : timed stts ≡ sample_count stsz
  pub total : samples_over stsc (items stco) ≡ sample_count stsz
  pub walk : Walkable stsc stco
  pub filled : Filled stsc
