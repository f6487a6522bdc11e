-- "In every edit a chunk offset changes by as much as its mdat moved."
use Rattle.std.specs.Prelude.{ℕ, List}
use Rattle.codes.specs.Codes.{STBL, STCO}
use Rattle.boxes.specs.declared.words.Target.{Target}
use Rattle.boxes.specs.Boxes.{boxes}
use Rattle.boxes.specs.Containers.{FILE, DEPTH, LONGEST}
use Rattle.boxes.specs.Rewrite.{edit_in}
use Rattle.boxes.specs.Words.{reword_leaf}
use Rattle.mdat.specs.Relocate.{relocate}

-- the chunk offsets of a track: all numbers of its `stco`, past version, flags and count
abbrev pub offsets : Target
offsets = record { kind = STBL; code = STCO; from = 8; span = LONGEST }

-- the file zs, which was made of xs: each chunk offset as far into the same payload as it was
unfoldable pub settled : (xs zs : List ℕ) → List ℕ
settled xs zs = edit_in (reword_leaf offsets (relocate (boxes xs) (boxes zs))) DEPTH FILE zs
