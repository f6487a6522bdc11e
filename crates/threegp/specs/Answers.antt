-- The answer of a call as one number: the refusal times 2^32, and the value or the place.
use Rattle.std.specs.Prelude.{ℕ, ◌+◌, ◌*◌, ◌%◌, ◌≤◌, ◌≡◌, List, [], ◌∷◌, Err}
use Rattle.rule.specs.Answers.{answer_number, answer_value, Answer}
use Rattle.rule.specs.Results.{ToWrite, answer_in, left_in, told_in}
use Rattle.rule.specs.Results.ToWrite.{gives, refuses}
use Rattle.clocks.specs.Clocks.{order_number}
use Rattle.judge.specs.Judgement as judgement
use Rattle.newer.specs.Newer.{Outcome, Found}
use Rattle.judge.specs.Judgement.{Judgement}

-- 32 bits of each, which is all there is of them
unfoldable pub pair : ℕ → ℕ → ℕ
pair n v = n % 4294967296 * 4294967296 + v % 4294967296

abbrev pub packed : Answer → ℕ
packed a = pair (answer_number a) (answer_value a)

abbrev pub judge_answer : Judgement → ℕ
judge_answer j = pair (judgement.judged_number j) (judgement.judged_place j)

-- what a function of the face promises: what the call behind it does, its answer as one number
pub record ForC (g : ToWrite) (out : List ℕ) (r : ℕ) (left : List ℕ) : Type 0 where
  pub answers : r ≡ packed (answer_in g out)
  pub leaves : left ≡ left_in g out

-- and one that reports too
pub record ReportsForC (g : ToWrite) (numbers : List ℕ) (out : List ℕ) (r : ℕ) (left : List ℕ) (room after : List ℕ) : Type 0 where
  pub call : ForC g out r left
  pub report : after ≡ told_in (answer_in g out) numbers room

-- ---- the newer of two, as four numbers

-- "a refusal of 1 to 10 names the file: its number is 256 × file + number"
abbrev pub newer_result : Outcome → ToWrite
newer_result (Found f) = gives (order_number f.order ∷ f.file ∷ f.place ∷ f.span ∷ [])
newer_result (Err e) = refuses (256 * e.file + e.refusal.number) e.refusal.place

-- a refusal's numbers are small
abbrev pub Told : Outcome → Type 0
Told (Found f) = Unit
Told (Err e) = (e.file ≤ 2) × (e.refusal.number ≤ 22)
