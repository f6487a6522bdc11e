-- A replacement by the sheet's list: "Replace decoder record of entry i (from 1, sheet order, ..): its damr or d263 becomes the given
-- one". Entry i is one entry, and no other changes.
use Rattle.std.specs.Prelude.{ℕ, ◌+◌, ◌-◌, ◌≤◌, ◌≡◌, List, map, length, drop}
use Rattle.wire.specs.Numbers.{word}
use Rattle.boxes.specs.declared.walk.Form.TheVariants.{Plain}
use Rattle.boxes.specs.Boxes.{HEAD}
use Rattle.boxes.specs.Way.{tail_by, box_by}
use Rattle.movie.specs.Entries.{entries}
use Rattle.movie.specs.Named.{bytes_at}
use Rattle.entry_heads.specs.Heads.{head_size}
use Rattle.edit_replace.specs.Replace.{kind_at}

-- the bytes e of an entry of a kind with another record behind its head: a plain box, whose code stays and whose size follows
abbrev pub entry_with : (kind : ℕ) (new e : List ℕ) → List ℕ
entry_with kind new e = box_by Plain (word 4 e 4) (tail_by (head_size kind - HEAD) new (drop HEAD e))

-- entry i of ys, from 1, is entry i of xs with another record; every other entry has the same bytes, and each is of the same track
pub record OneEntry (xs : List ℕ) (i : ℕ) (new ys : List ℕ) : Type 0 where
  pub first : 1 ≤ i
  pub last : i ≤ length (entries xs)
  pub same : length (entries ys) ≡ length (entries xs)
  pub there : bytes_at (i - 1) (entries ys) ≡ entry_with (kind_at xs i) new (bytes_at (i - 1) (entries xs))
  pub others : (j : ℕ) → (j + 1 ≡ i → ⊥) → bytes_at j (entries ys) ≡ bytes_at j (entries xs)
  pub tracks : map (λ e. e.track) (entries ys) ≡ map (λ e. e.track) (entries xs)
