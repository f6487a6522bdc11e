-- Demand 3: "Any run of edits on an accepted file (that refusal 23 lets pass): after each accepted edit the file is exactly the one
-- that 01's meaning gives, worked out afresh; it is accepted; every track has the same samples, byte for byte and in order; only
-- the named fields, enclosing sizes, chunk offsets and, for a move, the box order differ."
use Rattle.std.specs.Prelude.{ℕ, ◌≡◌, List, [], ◌∷◌, length, Err}
use Rattle.promise_kept.specs.Follows.{AllFollow}
use Rattle.promise_kept.specs.Kept.{Kept}
use Rattle.promise_kept.specs.Edits.{Edit, meaning}
use Rattle.promise_differs.specs.Differs.{Differs}
use Rattle.promises.specs.Runs.{Lent, answer_of, goes_on, run}
use Rattle.rule.specs.Answers.{Answer, Done, Refused}

-- an edit e made ys of xs
pub record Edited (e : Edit) (xs ys : List ℕ) : Type 0 where
  pub means : ys ≡ meaning e xs
  pub kept : Kept xs ys
  pub follow : AllFollow xs ys
  pub differs : Differs e xs ys

-- an edit e of the file xs got an answer, and the caller goes on with ys: the same file, or the edited one, as long as the answer says
abbrev pub Step : Answer → Edit → List ℕ → List ℕ → Type 0
Step (Err r) e xs ys = ys ≡ xs
Step (Done n) e xs ys = (n ≡ length ys) × Edited e xs ys

unfoldable pub EveryStep : List Lent → List ℕ → Type 0
EveryStep [] xs = Unit
EveryStep (l ∷ ls) xs = Step (answer_of l xs) l.edit xs (goes_on l xs) × EveryStep ls (goes_on l xs)

-- of every step, and of the last file against the first
pub record Demand (ls : List Lent) (xs : List ℕ) : Type 0 where
  pub steps : EveryStep ls xs
  pub last : Kept xs (run ls xs)
