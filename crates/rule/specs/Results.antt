-- A call that writes into a room that it was lent: what it comes to, and what every such call promises.
use Rattle.std.specs.Prelude.{ℕ, ◌≡◌, Bool, List, [], ◌∷◌, ◌++◌, length, drop, Err}
use Rattle.wire.specs.Tests.{pick, if_lt}
use Rattle.wire.specs.Clauses.{is_le, every}
use Rattle.boxes.specs.Containers.{LONGEST}
use Rattle.rule.specs.Answers.{Answer, Done, Refused}

-- what it is to write, or a refusal with its number and place
pub data ToWrite : Type 0 where
  gives : List ℕ → ToWrite
  refuses : (n p : ℕ) → ToWrite

-- the tests of a call in the paper's order, each with its number: the first that fails is given, and "places for 20 and above are 0"
unfoldable pub asked : List (ℕ × Bool) → ToWrite → ToWrite
asked [] g = g
asked (t ∷ ts) g = pick t.1 (asked ts g) (refuses t.0 0)

-- 1: "Length is 8 to 1,048,576"
abbrev pub length_fine : List ℕ → Bool
length_fine xs = every (is_le 8 (length xs) ∷ is_le (length xs) LONGEST ∷ [])

-- 24: not so where "the result would pass 1,048,576 bytes"
abbrev pub in_limit : List ℕ → Bool
in_limit xs = is_le (length xs) LONGEST

-- the answer; last of all 25: "the lent output is shorter than the result"
unfoldable pub answer_in : ToWrite → List ℕ → Answer
answer_in (gives xs) out = if_lt (length out) (length xs) (Refused 25 0) (Done (length xs))
answer_in (refuses n p) out = Refused n p

-- "A refusal writes nothing. Success writes the result and nothing beyond it."
unfoldable pub left_in : ToWrite → List ℕ → List ℕ
left_in (gives xs) out = if_lt (length out) (length xs) out (xs ++ drop (length xs) out)
left_in (refuses n p) out = out

-- the promise: the answer, and all that the room then holds
pub record Exact (g : ToWrite) (out : List ℕ) (r : Answer) (left : List ℕ) : Type 0 where
  pub answers : r ≡ answer_in g out
  pub leaves : left ≡ left_in g out

-- ---- a call that is lent a second room, for a report

-- what that room holds then: the numbers of the report where the call is done, and else what it held before
unfoldable pub told_in : Answer → List ℕ → List ℕ → List ℕ
told_in (Done n) numbers room = numbers ++ drop (length numbers) room
told_in (Err e) numbers room = room

-- its promise
pub record Reports (g : ToWrite) (numbers : List ℕ) (out : List ℕ) (r : Answer) (left : List ℕ) (room after : List ℕ) : Type 0 where
  pub exact : Exact g out r left
  pub report : after ≡ told_in (answer_in g out) numbers room
