-- The answer of a call, in the paper's numbers.
use Rattle.std.specs.Prelude.{ℕ, Result, Ok, Err}
use Rattle.rule.specs.declared.Refusal.{Refusal}

-- a refusal of a number at a place
abbrev pub refusal : ℕ → ℕ → Refusal
refusal n p = record { number = n; place = p }

-- what a call answers: a number, or why it refuses
abbrev pub Answer : Type 0
Answer = Result ℕ Refusal

pattern abbrev pub Done : ℕ → Answer
Done n = Ok n

-- the answer of any call that refuses
abbrev pub Refused : {A : Type 0} → ℕ → ℕ → Result A Refusal
Refused n p = Err (refusal n p)

-- the refusal number of the paper, 0 where there is none; then its place, or what the call gives
abbrev pub answer_number : Answer → ℕ
answer_number (Done n) = 0
answer_number (Err e) = e.number

abbrev pub answer_value : Answer → ℕ
answer_value (Done n) = n
answer_value (Err e) = e.place
