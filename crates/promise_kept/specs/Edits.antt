-- The edits of the paper: what each means, and what its call comes to.
use Rattle.std.specs.Prelude.{ℕ, List, ℤ}
use Rattle.wire.specs.Numbers.{Bytes}
use Rattle.rule.specs.Results.{ToWrite, answer_in, left_in}
use Rattle.edit_move.specs.Moving.{move_of, move_result}
use Rattle.edit_replace.specs.Replace.{replace_of, replace_result}
use Rattle.edit_shift.specs.Shift.{shift_of, shift_result}
use Rattle.rule.specs.Answers.{Answer}

-- an edit, with what it is given
pub data Edit : Type 0 where
  shift : ℤ → Edit
  replace : ℕ → List ℕ → Edit
  move : Edit

-- what is given are bytes, as in every call
abbrev pub Given : Edit → Type 0
Given (shift z) = Unit
Given (replace i new) = Bytes new
Given move = Unit

-- what the paper says that it makes of a file
abbrev pub meaning : Edit → List ℕ → List ℕ
meaning (shift z) xs = shift_of z xs
meaning (replace i new) xs = replace_of xs i new
meaning move xs = move_of xs

-- what its call comes to: the promises of the three calls, word for word
abbrev pub result : Edit → List ℕ → ToWrite
result (shift z) xs = shift_result z xs
result (replace i new) xs = replace_result xs i new
result move xs = move_result xs

-- what it answers, being lent the buffer out, and what it leaves there
abbrev pub answer : Edit → List ℕ → List ℕ → Answer
answer e xs out = answer_in (result e xs) out

abbrev pub left : Edit → List ℕ → List ℕ → List ℕ
left e xs out = left_in (result e xs) out
