-- Rewriting the bodies of boxes. Sizes follow, and what stands past the last whole box stays.
use Rattle.std.specs.Prelude.{ℕ, zero, suc, ◌+◌, ◌≤◌, ◌≡◌, List, ◌++◌, map, length, take, drop}
use Rattle.wire.specs.Tests.{if_eq}
use Rattle.boxes.specs.declared.walk.BoxAt.{BoxAt}
use Rattle.boxes.specs.Box.{Box, write, remade}
use Rattle.boxes.specs.Boxes.{boxes, after}
use Rattle.boxes.specs.Containers.{kind_in}

-- what a box's code and body make its body
abbrev pub Bodies : Type 0
Bodies = ℕ → List ℕ → List ℕ

-- and what an opaque box's container, code and body make its body
abbrev pub Leaves : Type 0
Leaves = ℕ → ℕ → List ℕ → List ℕ

abbrev pub over : Bodies → Box → Box
over f x = remade x (f x.code x.body)

unfoldable pub over_boxes : Bodies → List ℕ → List ℕ
over_boxes f xs = write (map (over f) (boxes xs)) ++ after xs

-- a box in a container of kind k: an opaque one by g, a container by go
unfoldable pub edit_box : Leaves → Bodies → ℕ → Bodies
edit_box g go k c b = if_eq (kind_in k c) 0 (g k c b) (go (kind_in k c) b)

-- every opaque box by g, as deep as d containers
unfoldable pub edit_in : Leaves → ℕ → Bodies
edit_in g zero k xs = xs
edit_in g (suc d) k xs = over_boxes (edit_box g (λ j ys. edit_in g d j ys) k) xs

-- ys in the place of the payload of a box b of the part
unfoldable pub in_body : List ℕ → BoxAt → List ℕ → List ℕ
in_body xs b ys = take (b.at + b.head) xs ++ (ys ++ drop (b.at + b.span) xs)

-- the boxes of a part that was xs₀ are rewritten by f before place at
pub record Looped (f : Bodies) (xs₀ xs : List ℕ) (at : ℕ) : Type 0 where
  pub inside : at ≤ length xs
  pub same : length xs ≡ length xs₀
  pub left : over_boxes f xs₀ ≡ take at xs ++ over_boxes f (drop at xs)
