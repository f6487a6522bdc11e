-- The walk over the boxes of a part, by places.
use Rattle.std.specs.Prelude.{ℕ, ◌+◌, ◌-◌, ◌≤◌, ◌<◌, ◌≡◌, true, List, [], ◌∷◌, length, take, drop}
use Rattle.wire.specs.Tests.{pick, if_le}
use Rattle.wire.specs.Numbers.{word}
use Rattle.boxes.specs.declared.walk.Walk.{Walk}
use Rattle.boxes.specs.declared.walk.Says.{Says}
use Rattle.boxes.specs.declared.walk.BoxAt.{BoxAt}
use Rattle.boxes.specs.declared.walk.Step.{Step}
use Rattle.boxes.specs.declared.walk.Step.TheVariants.{Found, End, Broken}
use Rattle.boxes.specs.Box.{Box, head_of, is_plain}
use Rattle.boxes.specs.Boxes.{form_of, head_front, size_of, whole, boxes, after}

-- what the header at the front of ys says
abbrev pub said_by : List ℕ → Says
said_by ys = record { form = form_of ys; head = head_front ys; span = size_of ys }

-- the box that ys, the bytes from a place on, start with
abbrev pub found_at : List ℕ → ℕ → BoxAt
found_at ys at = record { at = at; form = form_of ys; head = head_front ys; span = size_of ys; code = word 4 ys 4 }

-- rule 2 at one place: nothing left; a whole box; or no box, which breaks it there
unfoldable pub step_at : List ℕ → ℕ → Step
step_at xs at =
    if_le (length xs) at End
    (pick (whole (drop at xs)) (Found (found_at (drop at xs) at) (record { at = at + size_of (drop at xs) })) (Broken at))

-- what is left of it for a walk over plain boxes alone
abbrev pub plainly : ℕ → Step → Step
plainly at (Found b w) = pick (is_plain b.form) (Found b w) (Broken at)
plainly at End = End
plainly at (Broken p) = Broken at

-- the payload of a box that was found, and the box
abbrev pub payload : List ℕ → BoxAt → List ℕ
payload xs b = take (b.at + b.span - (b.at + b.head)) (drop (b.at + b.head) xs)

abbrev pub box_at : List ℕ → BoxAt → Box
box_at xs b = record { form = b.form; code = b.code; body = payload xs b }

-- a box was found at place at: it lies inside, and it is the first of the boxes from there on
pub record Ran (xs : List ℕ) (at : ℕ) (b : BoxAt) (w : Walk) : Type 0 where
  pub start : b.at ≡ at
  pub head : b.head ≡ head_of b.form
  pub eight : 8 ≤ b.head
  pub least : b.head ≤ b.span
  pub inside : at + b.span ≤ length xs
  pub next : w.at ≡ at + b.span
  pub list : boxes (drop at xs) ≡ box_at xs b ∷ boxes (drop w.at xs)
  pub rest : after (drop at xs) ≡ after (drop w.at xs)

-- no box was found there: all that is left stands past the last one
pub record Over (xs : List ℕ) (at : ℕ) : Type 0 where
  pub list : boxes (drop at xs) ≡ []
  pub rest : after (drop at xs) ≡ drop at xs

-- what a step's answer says of the boxes
abbrev pub Stepped : List ℕ → ℕ → Step → Type 0
Stepped xs at (Found b w) = Ran xs at b w
Stepped xs at End = Over xs at × (length xs ≤ at)
Stepped xs at (Broken p) = Over xs at × (p ≡ at) × (at < length xs)

-- and what a plain box or the end says of them
abbrev pub PlainlyStepped : List ℕ → ℕ → Step → Type 0
PlainlyStepped xs at (Found b w) = Ran xs at b w × (is_plain b.form ≡ true)
PlainlyStepped xs at End = Over xs at × (length xs ≤ at)
PlainlyStepped xs at (Broken p) = p ≡ at
