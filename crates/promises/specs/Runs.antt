-- A run of edits, each on the file that the one before it left, and lent a buffer of its own.
use Rattle.std.specs.Prelude.{ℕ, List, [], ◌∷◌, take, Err}
use Rattle.promise_kept.specs.Edits.{Edit, Given, answer, left}
use Rattle.rule.specs.Answers.{Answer, Done, Refused}

-- an edit and the buffer that it is lent
pub record Lent : Type 0 where
  pub edit : Edit
  pub out : List ℕ

-- its answer to the file xs
abbrev pub answer_of : Lent → List ℕ → Answer
answer_of l xs = answer l.edit xs l.out

-- the file that the caller goes on with: as many bytes of the buffer as the edit says, and the old file where it is refused
abbrev pub go_on : Answer → List ℕ → List ℕ → List ℕ
go_on (Done n) xs out = take n out
go_on (Err e) xs out = xs

abbrev pub goes_on : Lent → List ℕ → List ℕ
goes_on l xs = go_on (answer_of l xs) xs (left l.edit xs l.out)

unfoldable pub run : List Lent → List ℕ → List ℕ
run [] xs = xs
run (l ∷ ls) xs = run ls (goes_on l xs)

-- what is given to each are bytes
pub data AllGiven : List Lent → Type 0 where
  none : AllGiven []
  more : {l : Lent} {ls : List Lent} → Given l.edit → AllGiven ls → AllGiven (l ∷ ls)
