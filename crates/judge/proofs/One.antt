-- Rule 1 is a rule of the file alone. Assumes nothing.
use Prim.Native.Nat.{ℕ, zero, suc, ◌≤◌, ◌<◌}
use native.Mathlib.Omega.{arith}
use mathlib.Core.Path.{◌≡◌, refl, sym, ap, ◌∙◌}
use mathlib.Core.Bool.{true, false}
use mathlib.Core.Logic.{⊎_elim}
use mathlib.Core.List.{List}
use lib.ListN.{length}
use Rattle.wire.specs.Tests.{if_eq}
use Rattle.wire.proofs.Tests.{eq_yea, eq_nay, eq_ways}
use Rattle.wire.proofs.Clauses.{is_le_lem, not_le, le_is, clause, fails, holds, done}
use Rattle.boxes.specs.Containers.{FILE, LONGEST, parent, kind_in}
use Rattle.boxes.specs.Boxes.{boxes}
use Rattle.boxes.proofs.Reading.{all_of}
use Rattle.rule.specs.Verdict.{sooner, unless, Verdict, Fine, Bad}
use Rattle.rule.specs.Judge.{judge_in}
use Rattle.rule.specs.Rule.{all_in}
use Rattle.rule.proofs.Opened.{opened, closed}
use Rattle.judge.specs.One.{one_in, one_rule, one}
use Rattle.judge.specs.Judgement.{verdict_by}
use Rattle.judge.specs.Acceptance.{Holds}

-- no box in a container is the file
parent_file : parent FILE ≡ 0
unfolding parent if_eq
parent_file = refl

kind_below : (k c : ℕ) → (k ≡ 0 → ⊥) → kind_in k c ≡ FILE → ⊥
unfolding kind_in
kind_below k c z e = ⊎_elim (λ w. z (sym w.0 ∙ ap parent w.1 ∙ parent_file)) (λ w. omega (arith, w.1)) (eq_ways (parent c) k c 0 FILE e)

-- so nothing is asked of what a file holds
one_below : (d k : ℕ) (xs : List ℕ) → (k ≡ FILE → ⊥) → (k ≡ 0 → ⊥) → all_in one_rule d k xs ≡ true
unfolding all_in one_in
one_below zero k xs n z = refl
one_below (suc d) k xs n z =
    closed one_rule d k xs (record {
      node = sym (eq_nay _ _ _ _ _ n refl);
      leaves = all_of (λ x y. refl) (boxes xs);
      inside = all_of (λ x y. one_below d (kind_in k x.code) x.body (kind_below k x.code z) y) (boxes xs);
      end = refl;
    })

-- it holds of a file of such a length, and of no other
pub one_holds : (xs : List ℕ) → 8 ≤ length xs → length xs ≤ LONGEST → Holds one_rule xs
unfolding one_in
one_holds xs g l =
    closed one_rule 5 FILE xs (record {
      node = sym (eq_yea _ _ _ _ _ refl (holds _ _ (is_le_lem _ _ g) (holds _ _ (is_le_lem _ _ l) done)));
      leaves = all_of (λ x y. refl) (boxes xs);
      inside = all_of (λ x y. one_below 5 (kind_in FILE x.code) x.body (kind_below FILE x.code (λ z. omega arith)) y) (boxes xs);
      end = refl;
    })

pub holds_one : (xs : List ℕ) → Holds one_rule xs → (8 ≤ length xs) × (length xs ≤ LONGEST)
unfolding one_in if_eq
holds_one xs h = let n = (opened one_rule 5 FILE xs h).node in (le_is _ _ (clause 0 _ n), le_is _ _ (clause 1 _ n))

-- else it is broken at place 0
first_place : (v : Verdict) → sooner (Bad 0) v ≡ Bad 0
unfolding sooner
first_place Fine = refl
first_place (Bad q) = ap Bad (omega arith)

at_zero : (xs : List ℕ) → one_in FILE xs ≡ false → verdict_by one xs ≡ Bad 0
unfolding judge_in unless
at_zero xs e = rw e (first_place _)

pub one_short : (xs : List ℕ) → length xs < 8 → verdict_by one xs ≡ Bad 0
unfolding one_in
one_short xs h = at_zero xs (sym (eq_yea _ _ _ _ _ refl (fails 0 _ (not_le _ _ h))))

pub one_long : (xs : List ℕ) → LONGEST < length xs → verdict_by one xs ≡ Bad 0
unfolding one_in
one_long xs h = at_zero xs (sym (eq_yea _ _ _ _ _ refl (fails 1 _ (not_le _ _ h))))
