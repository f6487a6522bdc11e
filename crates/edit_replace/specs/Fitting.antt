-- What the writer of a replacement asks, and how it moves the chunk offsets.
use Rattle.std.specs.Prelude.{ℕ, ◌+◌, ◌-◌, ◌≤◌, List, [], ◌∷◌, length}
use Rattle.boxes.specs.declared.walk.BoxAt.{BoxAt}
use Rattle.boxes.specs.declared.words.By.{By}
use Rattle.boxes.specs.Boxes.{boxes}
use Rattle.boxes.specs.Containers.{LONGEST}
use Rattle.release.specs.Releases.{release_of}
use Rattle.entry_rules.specs.Decoders.{record_rule}
use Rattle.rule.specs.Results.{ToWrite, asked, in_limit}
use Rattle.rule.specs.Results.ToWrite.{gives}
use Rattle.judge.specs.Acceptance.{Meets, editable}
use Rattle.edit_offsets.specs.Close.{shut_at}
use Rattle.edit_replace.specs.declared.place.Place.{Place}
use Rattle.edit_replace.specs.Replace.{kind_at, takes, replace_of}
use Rattle.edit_replace.specs.Places.{record_there, Within}

-- a file that meets the rules, a place in it, a short record, and room for the result
pub record Fits (xs : List ℕ) (b : BoxAt) (p : Place) (keep : ℕ) (new out : List ℕ) : Type 0 where
  pub meets : Meets xs
  pub place : Within xs b p
  pub short : length new ≤ 31
  pub most : length (record_there xs (shut_at b) p keep new) ≤ LONGEST
  pub room : length (record_there xs (shut_at b) p keep new) ≤ length out

-- past the box b a chunk offset moves by as much as a file of m bytes grows to n
abbrev pub grown : BoxAt → ℕ → ℕ → By
grown b n m = record { limit = b.at + b.span; low = 0; high = n; less = m }

-- and such a box grows by as much
abbrev pub grown_box : BoxAt → ℕ → ℕ → BoxAt
grown_box b n m = record { at = b.at; form = b.form; head = b.head; span = b.span + n - m; code = b.code }

-- of an accepted file
unfoldable pub entry_result : List ℕ → ℕ → List ℕ → ToWrite
entry_result xs i new =
    asked
    ((20, takes (kind_at xs i) new)
    ∷ (21, record_rule (kind_at xs i) (release_of (boxes xs)) new)
    ∷ (23, editable xs)
    ∷ (24, in_limit (replace_of xs i new))
    ∷ []) (gives (replace_of xs i new))
