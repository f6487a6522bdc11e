-- How code moves a box: the part in four pieces, and then the chunk offsets by arithmetic.
use Rattle.std.specs.Prelude.{ℕ, ◌+◌, ◌-◌, List, ◌++◌, take, drop}
use Rattle.boxes.specs.declared.walk.BoxAt.{BoxAt}
use Rattle.boxes.specs.declared.words.By.{By}

-- a part with its box b at place f
unfoldable pub arranged : ℕ → BoxAt → List ℕ → List ℕ
arranged f b xs = take f xs ++ (take b.span (drop b.at xs) ++ (take (b.at - f) (drop f xs) ++ drop (b.at + b.span) xs))

-- what stands before the box makes room for it
abbrev pub up : BoxAt → By
up b = record { limit = b.at + b.span; low = b.span; high = 0; less = 0 }

-- where it then stands
abbrev pub moov_at : ℕ → BoxAt → BoxAt
moov_at f b = record { at = f; form = b.form; head = b.head; span = b.span; code = b.code }
