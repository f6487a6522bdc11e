-- Calls on a file: their refusals come "after 1 to 10".
use Rattle.std.specs.Prelude.{ℕ, Bool, List, Err}
use Rattle.rule.specs.Results.{ToWrite, asked}
use Rattle.rule.specs.Results.ToWrite.{gives, refuses}
use Rattle.judge.specs.Judgement.{judged, Judgement, Accepted}
use Rattle.rule.specs.Answers.{Answer, Refused}

-- what a call comes to where its file is accepted, else the refusal
unfoldable pub when_accepted : {A : Type 0} → (ℕ → ℕ → A) → Judgement → A → A
when_accepted refusal Accepted a = a
when_accepted refusal (Err e) a = refusal e.number e.place

-- a call that answers a number
unfoldable pub answer_on : List ℕ → Answer → Answer
answer_on file a = when_accepted Refused (judged file) a

-- a call that asks these tests, in the paper's order, and then gives xs
unfoldable pub result_on : List ℕ → List (ℕ × Bool) → List ℕ → ToWrite
result_on file tests xs = when_accepted refuses (judged file) (asked tests (gives xs))
