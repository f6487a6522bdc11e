-- What is said of an outline: its top level, and what rule 2 walks.
use Rattle.std.specs.Prelude.{ℕ, ◌+◌, ◌*◌, Bool, true, false, List, [], ◌∷◌}
use Rattle.wire.specs.Tests.{if_eq}
use Rattle.boxes.specs.Box.{Box, size}
use Rattle.boxes.specs.Containers.{FILE, DEPTH, kind_in}
use Rattle.outline.specs.Lines.{Line}
use Rattle.outline.specs.Lines.Line.{box, broken}
use Rattle.outline.specs.Outline.{list_lines}

-- the boxes of a depth
unfoldable pub at_depth : ℕ → List Line → List Line
at_depth d [] = []
at_depth d (box c p s e ∷ ls) = if_eq e d (box c p s e ∷ at_depth d ls) (at_depth d ls)
at_depth d (broken p ∷ ls) = at_depth d ls

-- boxes one after the other from place p on, as lines of the top level
unfoldable pub top_lines : ℕ → List Box → List Line
top_lines p [] = []
top_lines p (x ∷ l) = box x.code p (size x) 1 ∷ top_lines (p + size x) l

-- the outline of what rule 2 walks: only the format's own paths are opened
abbrev pub walked : List ℕ → List Line
walked xs = list_lines kind_in (2 * DEPTH) FILE 1 0 xs

-- no line is `broken`
unfoldable pub unbroken : List Line → Bool
unbroken [] = true
unbroken (box c p s d ∷ ls) = unbroken ls
unbroken (broken p ∷ ls) = false

-- every line of one list is a line of the other, in the same order
pub data Among : List Line → List Line → Type 0 where
  end : Among [] []
  here : {x : Line} {l m : List Line} → Among l m → Among (x ∷ l) (x ∷ m)
  past : {x : Line} {l m : List Line} → Among l m → Among l (x ∷ m)
