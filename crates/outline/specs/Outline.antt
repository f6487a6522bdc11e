-- The outline of a file: "every box .. code, place, size and depth". "A list of boxes holds boxes and a box may hold a list."
use Rattle.std.specs.Prelude.{ℕ, zero, suc, ◌+◌, ◌-◌, ◌*◌, List, [], ◌∷◌, ◌++◌}
use Rattle.wire.specs.Tests.{pick, if_eq}
use Rattle.codes.specs.Codes.{UDTA}
use Rattle.boxes.specs.Box.{Box, head, size}
use Rattle.boxes.specs.Boxes.{boxes, after, nothing}
use Rattle.boxes.specs.Containers.{FILE, parent}
use Rattle.rule.specs.Results.{ToWrite, asked, length_fine}
use Rattle.rule.specs.Results.ToWrite.{gives}
use Rattle.rule_shape.specs.Two.{shut_in}
use Rattle.outline.specs.Lines.{Line, printed}
use Rattle.outline.specs.Lines.Line.{box, broken}

-- the kind of a box of code c in a container of kind k, and 0 where it isn't opened
abbrev pub Opening : Type 0
Opening = ℕ → ℕ → ℕ

-- "any of the six container codes, or `udta`, opens a container wherever it stands": the six are those that have a parent
unfoldable pub opens_as : ℕ → ℕ
opens_as c = if_eq (parent c) 0 (if_eq c UDTA c 0) c

abbrev pub wherever : Opening
wherever k c = opens_as c

-- the boxes of a container of kind k from place p on, each by f. "A box that doesn't fit .. ends its list": one that may not have
-- its form there, or the bytes past the last whole one
unfoldable pub row_lines : (ℕ → Box → List Line) → (k p : ℕ) → List Box → List ℕ → List Line
row_lines f k p [] rest = pick (nothing rest) [] (broken p ∷ [])
row_lines f k p (x ∷ l) rest = pick (shut_in k x) (f p x ++ row_lines f k (p + size x) l rest) (broken p ∷ [])

-- a list, and a box that may hold a list, each by the other: each takes one of the rounds left. d is their depth, p their place
unfoldable mutual
  pub list_lines : Opening → (rounds k d p : ℕ) → List ℕ → List Line
  list_lines o zero k d p xs = []
  list_lines o (suc n) k d p xs = row_lines (λ q x. box_lines o n k d q x) k p (boxes xs) (after xs)

  pub box_lines : Opening → (rounds k d p : ℕ) → Box → List Line
  box_lines o zero k d p x = []
  box_lines o (suc n) k d p x = box x.code p (size x) d ∷ if_eq (o k x.code) 0 [] (list_lines o n (o k x.code) (d + 1) (p + head x) x.body)

-- "nested at most 16 deep"
abbrev pub DEEPEST : ℕ
DEEPEST = 16

-- the rounds that a list at depth d has left: one for itself and one for its boxes, down to the deepest
abbrev pub rounds_at : ℕ → ℕ
rounds_at d = 2 * (DEEPEST + 1 - d)

-- "top level is depth 1"
abbrev pub outline : List ℕ → List Line
outline xs = list_lines wherever (rounds_at 1) FILE 1 0 xs

-- "this works on refused files as well, but not on those of refusal 1"
unfoldable pub outline_result : List ℕ → ToWrite
outline_result xs = asked ((1, length_fine xs) ∷ []) (gives (printed (outline xs)))
