-- There and back: "Write them back with shortest lengths; a read of that gives the same values."
use Rattle.std.specs.Prelude.{ℕ, ◌-◌, ◌≡◌, List, ◌++◌, drop}
use Rattle.wire.specs.Numbers.{word}
use Rattle.entry_heads.specs.Kinds.{kind_of}
use Rattle.entry_heads.specs.Heads.{head_size}
use Rattle.movie.specs.declared.entry.EntryAt.{EntryAt}
use Rattle.movie.specs.Named.{EntryIs, entry_as}
use Rattle.rule.specs.Results.ToWrite.{gives}
use Rattle.judge.specs.Judgement.{judged, Accepted}
use Rattle.esds.specs.Calls.{esds_read, specific_part}

-- an accepted file has, in entry i of a kind, behind the head, the box xs
pub record Carries (file : List ℕ) (i kind : ℕ) (xs : List ℕ) : Type 0 where
  pub accepted : judged file ≡ Accepted
  pub number : i ≡ 0 → ⊥
  pub entry : EntryAt
  pub there : EntryIs file (i - 1) entry
  pub of : kind_of (word 4 (entry_as file entry).bytes 4) ≡ kind
  pub box : drop (head_size kind) (entry_as file entry).bytes ≡ xs

-- a read of it gives these eight numbers, and then a place and a length at which the specific information s stands in the file
pub record ReadsAs (file : List ℕ) (i : ℕ) (numbers s : List ℕ) : Type 0 where
  pub more : List ℕ
  pub is : esds_read file i ≡ gives (numbers ++ more)
  pub part : specific_part file (esds_read file i) ≡ s
