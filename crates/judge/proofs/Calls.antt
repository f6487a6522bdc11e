-- What a call on a file comes to, once it knows the judgement; and what is known of one that is done. Assumes nothing.
use Rattle.std.specs.Prelude.{Result, Err}
use Rattle.std.specs.Result.{IsErrAnd}
use Prim.Native.Nat.{ℕ}
use mathlib.Core.Path.{◌≡◌, refl, sym, ◌∙◌}
use mathlib.Core.Bool.{Bool, true}
use mathlib.Core.List.{List, map}
use Rattle.wire.specs.Clauses.{every}
use Rattle.rule.specs.Results.{asked, answer_in, Exact}
use Rattle.rule.specs.Results.ToWrite.{gives, refuses}
use Rattle.rule.specs.declared.Refusal.{Refusal}
use Rattle.rule.proofs.SameRefusal.{passed_on}
use Rattle.rule.proofs.Results.{Gave, exact_refuses, refused_not, gives_done, asked_done}
use Rattle.judge.specs.Judgement.{judged, Judgement, Accepted}
use Rattle.judge.specs.Calls.{when_accepted, answer_on, result_on}
use Rattle.judge.specs.Acceptance.{Meets}
use Rattle.judge.proofs.Exact.{accepted_meets}
use Rattle.rule.specs.Answers.{Answer, Done, Refused}

module _ (xs : List ℕ) {j : Judgement} (e : j ≡ judged xs) where
  -- what a call may go by
  pub met : j ≡ Accepted → Meets xs
  met f = accepted_meets xs (sym e ∙ f)

  -- ---- any answer

  pub when_accepted_lem : {A : Type 0} (refusal : ℕ → ℕ → A) (a : A) {r : A} → j ≡ Accepted → r ≡ a → r ≡ when_accepted refusal (judged xs) a
  unfolding when_accepted
  when_accepted_lem refusal a f g = rw (← e, f, g)

  pub when_refused : {A : Type 0} (refusal : ℕ → ℕ → A) (a : A) {f : Refusal} → j ≡ Err f
      → refusal f.number f.place ≡ when_accepted refusal (judged xs) a
  unfolding when_accepted
  when_refused refusal a g = rw (← e, g) refl

  -- `?` hands the refusal on
  pub when_passed : {A : Type 0} (a : Result A Refusal) {f : Refusal} (r : Result A Refusal) → j ≡ Err f → IsErrAnd r (λ y. y ≡ f) → r ≡ when_accepted Refused (judged xs) a
  unfolding when_accepted
  when_passed a r g h = passed_on r h ∙ rw (← e, g) refl

  -- ---- a number

  pub answer_accepted : (a : Answer) {r : Answer} → j ≡ Accepted → r ≡ a → r ≡ answer_on xs a
  unfolding answer_on
  answer_accepted a f g = when_accepted_lem _ a f g

  pub answer_passed : (a : Answer) {f : Refusal} (r : Answer) → j ≡ Err f → IsErrAnd r (λ y. y ≡ f) → r ≡ answer_on xs a
  unfolding answer_on
  answer_passed a r g h = when_passed a r g h

  -- ---- what is written into a lent room

  pub result_accepted : (ts : List (ℕ × Bool)) (ys out : List ℕ) → j ≡ Accepted → {r : Answer} {left : List ℕ} → Exact (asked ts (gives ys)) out r left → Exact (result_on xs ts ys) out r left
  unfolding result_on when_accepted
  result_accepted ts ys out f x = rw (← e, f) x

  pub result_passed : (ts : List (ℕ × Bool)) (ys out : List ℕ) {f : Refusal} (r : Answer) → j ≡ Err f → IsErrAnd r (λ y. y ≡ f) → Exact (result_on xs ts ys) out r out
  unfolding result_on when_accepted
  result_passed ts ys out r g h = rw (passed_on r h, ← e, g) (exact_refuses _ _ out)

-- a call that is done: its file meets the rules, each test holds, and what it gives stands in the room
pub record DoneOn (xs : List ℕ) (ts : List (ℕ × Bool)) (ys out : List ℕ) (n : ℕ) : Type 0 where
  pub meets : Meets xs
  pub tests : every (map (λ t. t.1) ts) ≡ true
  pub is : result_on xs ts ys ≡ gives ys
  pub gave : Gave ys out n

pub result_done : (xs : List ℕ) (ts : List (ℕ × Bool)) (ys out : List ℕ) (n : ℕ) → answer_in (result_on xs ts ys) out ≡ Done n → DoneOn xs ts ys out n
unfolding result_on when_accepted answer_in
result_done xs ts ys out n = go (judged xs) refl
  where
    go : (j : Judgement) → judged xs ≡ j → answer_in (when_accepted refuses j (asked ts (gives ys))) out ≡ Done n → DoneOn xs ts ys out n
    go Accepted f e =
        let a = asked_done ts ys out n e in
        record { meets = accepted_meets xs f; tests = a.0; is = rw f a.1; gave = gives_done ys out n (rw a.1 at e) }
    go (Err r) f e = absurd (refused_not r.number r.place n e)
