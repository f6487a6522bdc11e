-- Two refusals that are the same have one number and one place; and `?` hands on the refusal that it was given. Assumes nothing.
use Rattle.std.specs.Prelude.{Result, Ok, Err}
use Rattle.std.specs.Result.{IsErrAnd}
use Rattle.std.proofs.lemmas.Result.{err_from_is_err_and}
use Prim.Native.Nat.{ℕ}
use mathlib.Core.Path.{◌≡◌, ap, ◌∙◌}
use Rattle.rule.specs.declared.Refusal.{Refusal}
use Rattle.rule.specs.Answers.{Refused}

abbrev number_of : {A : Type 0} → Result A Refusal → ℕ
number_of (Ok x) = 0
number_of (Err e) = e.number

abbrev place_of : {A : Type 0} → Result A Refusal → ℕ
place_of (Ok x) = 0
place_of (Err e) = e.place

module _ {A : Type 0} {n p m q : ℕ} (e : Refused {A = A} n p ≡ Refused m q) where
  pub same_number : n ≡ m
  same_number = ap number_of e

  pub same_place : p ≡ q
  same_place = ap place_of e

-- what `?` hands on
pub passed_on : {A : Type 0} {f : Refusal} (r : Result A Refusal) → IsErrAnd r (λ y. y ≡ f) → r ≡ Err f
passed_on r h = let p = err_from_is_err_and r h in p.1 ∙ ap Err p.2
