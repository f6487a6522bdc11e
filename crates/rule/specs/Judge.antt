-- A rule with places, asked of a whole file. A place is carried along; a box takes its size.
use Rattle.std.specs.Prelude.{ℕ, zero, suc, ◌+◌, List, [], ◌∷◌}
use Rattle.wire.specs.Tests.{if_eq}
use Rattle.boxes.specs.Box.{Box, head, size}
use Rattle.boxes.specs.Boxes.{boxes, after}
use Rattle.boxes.specs.Containers.{kind_in}
use Rattle.rule.specs.Verdict.{sooner, Verdict, Fine}

-- what a rule says of an opaque box (its container's kind, its code, its body, its place and its payload's), of a container or
-- the file (its kind, what it holds, its place and its payload's), and of the bytes past the last whole box (and their place)
pub record Judge : Type 0 where
  pub leaf : ℕ → ℕ → List ℕ → ℕ → ℕ → Verdict
  pub node : ℕ → List ℕ → ℕ → ℕ → Verdict
  pub end : List ℕ → ℕ → Verdict

-- the boxes in order from place p on, and then the end
unfoldable pub judge_list : (Box → ℕ → Verdict) → (ℕ → Verdict) → List Box → ℕ → Verdict
judge_list j e [] p = e p
judge_list j e (x ∷ l) p = sooner (j x p) (judge_list j e l (p + size x))

-- a box in a container of kind k: an opaque one by itself, a container by what it holds
unfoldable pub judge_box : Judge → (ℕ → List ℕ → ℕ → ℕ → Verdict) → ℕ → Box → ℕ → Verdict
judge_box j go k x p = if_eq (kind_in k x.code) 0 (j.leaf k x.code x.body p (p + head x)) (go (kind_in k x.code) x.body p (p + head x))

-- a part of kind k at place home whose first byte is at p, as deep as d containers
unfoldable pub judge_in : Judge → ℕ → ℕ → List ℕ → ℕ → ℕ → Verdict
judge_in j zero k xs home p = Fine
judge_in j (suc d) k xs home p = sooner (j.node k xs home p) (judge_list (judge_box j (λ i ys h q. judge_in j d i ys h q) k) (j.end (after xs)) (boxes xs) p)
