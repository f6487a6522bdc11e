-- A refusal's number is that of the first rule that is broken, and its place the first that breaks it. Assumes nothing.
use Rattle.std.specs.Prelude.{Err}
use Prim.Native.Nat.{ℕ, zero, suc, ◌+◌, ◌-◌, ◌≤◌, ◌<◌}
use native.Mathlib.Omega.{arith}
use mathlib.Core.Path.{◌≡◌, refl, ap, ◌∙◌}
use mathlib.Core.List.{List, ◌∷◌}
use lib.ListN.{length, get_or}
use Rattle.wire.proofs.Tests.{lt_or}
use Rattle.boxes.specs.Boxes.{boxes}
use Rattle.boxes.specs.Containers.{FILE, DEPTH, LONGEST}
use Rattle.rule.specs.Judge.{Judge}
use Rattle.rule.specs.Rule.{Rule, Says}
use Rattle.rule.proofs.Acceptance.{fine_all, all_fine}
use Rattle.judge.specs.One.{one, one_rule}
use Rattle.judge.specs.Judgement.{verdict_by, unless_broken, judged_from, judged, Judgement, Accepted}
use Rattle.judge.specs.Acceptance.{Holds}
use Rattle.judge.specs.Refusal.{judge_of, Breaks}
use Rattle.judge.proofs.One.{one_holds, one_short, one_long}
use Rattle.judge.proofs.Exact.{Say, Hold, rules_say, meet_all, accepted_meets}
use Rattle.judge.proofs.Exact.Say.{none, more}
use Rattle.judge.proofs.Exact.Hold.{nil, cons}
use Rattle.rule.specs.Verdict.{Verdict, Fine, Bad}
use Rattle.rule.proofs.SameRefusal.{same_number, same_place}
use Rattle.rule.specs.Answers.{Refused}

-- a verdict is not both
fine_not : {v : Verdict} {p : ℕ} → v ≡ Fine → v ≡ Bad p → ⊥
fine_not e f = let z : ◌≡◌ {A = ℕ} 0 1 = cc in omega arith

bad_same : {v : Verdict} {p q : ℕ} → v ≡ Bad p → v ≡ Bad q → p ≡ q
bad_same e f = cc

-- ---- some rules, from number m on

-- n is the first of them that is broken
record From (js : List Judge) (rs : List Rule) (xs : List ℕ) (m n p : ℕ) : Type 0 where
  pub least : m ≤ n
  pub most : n < m + length js
  pub below : (i : ℕ) → m ≤ i → i < n → Holds (get_or rs (i - m) one_rule) xs
  pub broken : Holds (get_or rs (n - m) one_rule) xs → ⊥
  pub first : verdict_by (get_or js (n - m) one) xs ≡ Bad p

module _ {j : Judge} {r : Rule} {js : List Judge} {rs : List Rule} (s : Says j r) (xs : List ℕ) (m n p : ℕ) where
  from_here : verdict_by j xs ≡ Bad p → m ≡ n → From (j ∷ js) (r ∷ rs) xs m n p
  from_here f e =
      let z : n - m ≡ 0 = omega arith in
      record {
        least = omega arith;
        most = omega arith;
        below = λ i k l. absurd (omega arith);
        broken = rw z (λ h. fine_not (all_fine j r s DEPTH FILE xs 0 0 h) f);
        first = rw z f;
      }

  from_next : verdict_by j xs ≡ Fine → From js rs xs (m + 1) n p → From (j ∷ js) (r ∷ rs) xs m n p
  from_next f w =
      let z : n - m ≡ suc (n - (m + 1)) = omega (arith, w.least) in
      record {
        least = omega (arith, w.least);
        most = omega (arith, w.most);
        below = λ i k l.
            lt_or m i
            (λ h. let y : i - m ≡ suc (i - (m + 1)) = omega arith in rw y (w.below i (omega arith) l))
            (λ h. let y : i - m ≡ 0 = omega arith in rw y (fine_all j r s DEPTH FILE xs 0 0 f));
        broken = rw z w.broken;
        first = rw z w.first;
      }

from_refused : {js : List Judge} {rs : List Rule} → Say js rs → (m : ℕ) (xs : List ℕ) (n p : ℕ) → judged_from m js xs ≡ Refused n p → From js rs xs m n p
unfolding judged_from unless_broken
from_refused none m xs n p e = let z : ◌≡◌ {A = ℕ} 0 1 = cc in absurd (omega arith)
from_refused (more {j} {r} {js} {rs} s t) m xs n p e = go (verdict_by j xs) refl e (from_refused t (m + 1) xs n p)
  where
    go : (v : Verdict) → verdict_by j xs ≡ v → unless_broken m v (judged_from (m + 1) js xs) ≡ Refused n p
        → (judged_from (m + 1) js xs ≡ Refused n p → From js rs xs (m + 1) n p) → From (j ∷ js) (r ∷ rs) xs m n p
    go Fine f g h = from_next s xs m n p f (h g)
    go (Bad q) f g h = from_here s xs m n p (f ∙ ap Bad (same_place g)) (same_number g)

-- ---- rules 1 to 10

pub refused_breaks : (xs : List ℕ) (n p : ℕ) → judged xs ≡ Refused n p → Breaks xs n p
unfolding judged
refused_breaks xs n p e =
    let f = from_refused (rules_say (boxes xs)) 1 xs n p e in
    record { least = f.least; most = omega (arith, f.most); below = f.below; broken = f.broken; first = f.first }

-- rule 1: the length is outside, and the place is 0
pub refused_length : (xs : List ℕ) (p : ℕ) → judged xs ≡ Refused 1 p → (p ≡ 0) × (8 ≤ length xs → length xs ≤ LONGEST → ⊥)
refused_length xs p e =
    let b = refused_breaks xs 1 p e in
    let out : 8 ≤ length xs → length xs ≤ LONGEST → ⊥ = λ g l. b.broken (one_holds xs g l) in (
      lt_or (length xs) 8 (λ h. bad_same b.first (one_short xs h))
          (λ g. lt_or LONGEST (length xs) (λ h. bad_same b.first (one_long xs h)) (λ l. absurd (out g l))),
      out,
    )

-- and back: the first rule that is broken is the one that is told
hold_at : {xs : List ℕ} {rs : List Rule} → Hold xs rs → (i : ℕ) → i < length rs → Holds (get_or rs i one_rule) xs
hold_at nil i h = absurd (omega arith)
hold_at (cons r a) zero h = r
hold_at (cons r a) (suc i) h = hold_at a i (omega arith)

pub breaks_refused : (xs : List ℕ) (n p : ℕ) → Breaks xs n p → judged xs ≡ Refused n p
breaks_refused xs n p b = go (judged xs) refl
  where
    same : (m q : ℕ) → n ≡ m → Breaks xs m q → Refused {A = Unit {0}} m q ≡ Refused n p
    same m q e c = let f : verdict_by (judge_of (boxes xs) n) xs ≡ Bad q = rw e c.first in let z : q ≡ p = bad_same f b.first in cc

    go : (j : Judgement) → judged xs ≡ j → j ≡ Refused n p
    go Accepted e = absurd (b.broken (hold_at (meet_all xs (accepted_meets xs e)) (n - 1) (omega (arith, b.least, b.most))))
    go (Err r) e =
        let c = refused_breaks xs r.number r.place e in
        lt_or n r.number (λ h. absurd (b.broken (c.below n b.least h)))
        (λ g. lt_or r.number n (λ h. absurd (c.broken (b.below r.number c.least h))) (λ l. same r.number r.place (omega arith) c))
