-- The rules in their order. Assumes nothing.
use Prim.Native.Nat.{ℕ, zero, suc, ◌+◌, ◌-◌, ◌≤◌, ◌<◌}
use native.Mathlib.Omega.{arith}
use mathlib.Core.Path.{◌≡◌, refl, sym, ap, ◌∙◌}
use mathlib.Core.List.{List, [], ◌∷◌}
use lib.ListN.{length}
use Rattle.wire.specs.Tests.{if_eq, if_lt}
use Rattle.boxes.specs.Box.{Box}
use Rattle.boxes.specs.Boxes.{boxes}
use Rattle.boxes.specs.Containers.{FILE, DEPTH, LONGEST}
use Rattle.release.specs.Releases.{release_of}
use Rattle.rule.specs.Verdict.{unless, Verdict, Fine, Bad}
use Rattle.rule.specs.Judge.{Judge}
use Rattle.rule.proofs.Places.{placed_says}
use Rattle.rule.proofs.Alike.{no_test}
use Rattle.rule.proofs.Acceptance.{fine_all, all_fine}
use Rattle.rule_shape.specs.Two.{two}
use Rattle.rule_shape.specs.Three.{three, three_rule}
use Rattle.rule_shape.proofs.Descent.{Met}
use Rattle.rule_headers.specs.Four.{four}
use Rattle.rule_lists.specs.Five.{five}
use Rattle.rule_lists.specs.Nine.{nine}
use Rattle.rule_tracks.specs.Six.{six, six_rule}
use Rattle.rule_tracks.specs.Seven.{seven, seven_rule}
use Rattle.rule_tracks.specs.Asked.{asked_seven, asked_eight}
use Rattle.rule_tracks.proofs.Asked.{seven_asked_lem, eight_asked_lem}
use Rattle.rule_entries.specs.Ten.{ten}
use Rattle.judge.specs.One.{one, one_rule}
use Rattle.judge.specs.Judgement.{verdict_by, unless_broken, judged_from, judged, Judgement, Accepted}
use Rattle.judge.specs.Asked.{shaped_by, tiled_by, formed_by, first_by, leaf_by, node_by, judge_by, verdict_of}
use Rattle.judge.proofs.One.{one_holds, one_short, one_long}
use Rattle.rule.specs.Answers.{Refused}

-- k rules from number n on, as code asks them
abbrev asked : ℕ → ℕ → List Box → List Judge
asked zero n l = []
asked (suc k) n l = judge_by n l ∷ asked k (n + 1) l

-- rules 2 to 10 so
abbrev read_judges : List Box → List Judge
read_judges l = two ∷ first_by 3 ∷ four ∷ five ∷ six ∷ asked_seven ∷ asked_eight l ∷ nine ∷ ten (release_of l) ∷ []

by_number : (l : List Box) → read_judges l ≡ asked 9 2 l
unfolding shaped_by tiled_by formed_by leaf_by node_by judge_by if_eq if_lt unless
by_number l = refl

-- rule 3 asks nothing of a form
three_asked : (xs : List ℕ) → verdict_by three xs ≡ verdict_by (first_by 3) xs
unfolding shaped_by tiled_by formed_by if_eq unless
three_asked xs = sym (no_test (λ k x. formed_by 3 k x.form) three_rule (λ k x. refl) DEPTH FILE xs 0 0)

-- a rule is read where the rules before it hold
read : (n : ℕ) (v : Verdict) (i j : Judgement) → (v ≡ Fine → i ≡ j) → unless_broken n v i ≡ unless_broken n v j
unfolding unless_broken
read n Fine i j h = h refl
read n (Bad p) i j h = refl

-- so the judgement is what code asks
as_read : (xs : List ℕ) → judged xs ≡ judged_from 1 (one ∷ read_judges (boxes xs)) xs
unfolding judged judged_from
as_read xs =
    read 1 _ _ _ (λ e. read 2 _ _ _ (λ e. rw (three_asked xs) (read 3 _ _ _ (λ e3. read 4 _ _ _ (λ e. read 5 _ _ _ (λ e. read 6 _ _ _ (λ e6.
    let m : Met six_rule DEPTH FILE xs =
    record {
      three = fine_all three three_rule (placed_says three_rule) DEPTH FILE xs 0 0 (three_asked xs ∙ e3);
      rule = fine_all six six_rule (placed_says six_rule) DEPTH FILE xs 0 0 e6;
    } in
    rw (seven_asked_lem DEPTH FILE xs 0 0 m) (read 7 _ _ _ (λ e7.
    rw (eight_asked_lem (boxes xs) DEPTH FILE xs 0 0 (record { six = m; seven = fine_all seven seven_rule (placed_says seven_rule) DEPTH FILE xs 0 0 e7 })))))))))))

as_asked : (xs : List ℕ) → judged xs ≡ judged_from 1 (one ∷ asked 9 2 (boxes xs)) xs
as_asked xs = as_read xs ∙ ap (λ (js : List Judge). judged_from 1 (one ∷ js) xs) (by_number (boxes xs))

-- before rule n nothing is broken, and the rules from n on are left
pub record Passed (xs : List ℕ) (n : ℕ) : Type 0 where
  pub most : n ≤ 11
  pub is : judged xs ≡ judged_from n (asked (11 - n) n (boxes xs)) xs

-- rule 1
pub passed_none : (xs : List ℕ) → 8 ≤ length xs → length xs ≤ LONGEST → Passed xs 2
unfolding judged_from unless_broken
passed_none xs g l = record { most = omega arith; is = as_asked xs ∙ rw (all_fine one one_rule (placed_says one_rule) DEPTH FILE xs 0 0 (one_holds xs g l)) }

pub too_short : (xs : List ℕ) → length xs < 8 → Refused 1 0 ≡ judged xs
unfolding judged judged_from unless_broken
too_short xs h = rw (one_short xs h)

pub too_long : (xs : List ℕ) → LONGEST < length xs → Refused 1 0 ≡ judged xs
unfolding judged judged_from unless_broken
too_long xs h = rw (one_long xs h)

-- rules 2 to 10
module _ (xs : List ℕ) (n : ℕ) (i : Passed xs n) where
  module _ (h : n < 11) {v : Verdict} (e : v ≡ verdict_of n xs) where
    open_from : judged_from n (asked (11 - n) n (boxes xs)) xs ≡ unless_broken n (verdict_of n xs) (judged_from (n + 1) (asked (11 - (n + 1)) (n + 1) (boxes xs)) xs)
    unfolding judged_from verdict_of
    open_from = let q : 11 - n ≡ suc (11 - (n + 1)) = omega arith in rw q

    pub passed_more : v ≡ Fine → Passed xs (n + 1)
    unfolding unless_broken
    passed_more f = record { most = omega arith; is = i.is ∙ open_from ∙ rw (← e, f) }

    pub passed_bad : (p : ℕ) → v ≡ Bad p → Refused n p ≡ judged xs
    unfolding unless_broken
    passed_bad p f = sym (i.is ∙ open_from ∙ rw (← e, f))

  pub passed_all : 11 ≤ n → Accepted ≡ judged xs
  unfolding judged_from
  passed_all h = let q : 11 - n ≡ 0 = omega arith in sym (i.is ∙ rw q)
