-- A file is accepted exactly when it meets the rules. Assumes nothing.
use Prim.Native.Nat.{ℕ, ◌+◌}
use native.Mathlib.Omega.{arith}
use mathlib.Core.Path.{◌≡◌, refl, ◌∙◌}
use mathlib.Core.List.{List, [], ◌∷◌}
use Rattle.boxes.specs.Box.{Box}
use Rattle.boxes.specs.Boxes.{boxes}
use Rattle.boxes.specs.Containers.{FILE, DEPTH}
use Rattle.release.specs.Releases.{release_of}
use Rattle.rule.specs.Judge.{Judge}
use Rattle.rule.specs.Rule.{Rule, Says}
use Rattle.rule.proofs.Places.{placed_says}
use Rattle.rule.proofs.Acceptance.{each_says, fine_all, all_fine}
use Rattle.rule_shape.specs.Two.{tiled_rule, shut_in}
use Rattle.rule_shape.specs.Three.{three_rule}
use Rattle.rule_lists.proofs.Rules.{five_says, nine_says}
use Rattle.rule_headers.proofs.Rule4.{four_says}
use Rattle.rule_tracks.specs.Six.{six_rule}
use Rattle.rule_tracks.specs.Seven.{seven_rule}
use Rattle.rule_tracks.proofs.KeptEight.{eight_says}
use Rattle.rule_entries.proofs.Kept.{ten_says}
use Rattle.judge.specs.One.{one_rule}
use Rattle.judge.specs.Judgement.{judges, verdict_by, unless_broken, judged_from, judged, Judgement, Accepted}
use Rattle.judge.specs.Acceptance.{Holds, rules, Meets}
use Rattle.judge.proofs.One.{one_holds, holds_one}
use Rattle.rule.specs.Verdict.{Verdict, Fine, Bad}

-- ---- some rules

next_fine : (n : ℕ) (v : Verdict) (j : Judgement) → unless_broken n v j ≡ Accepted → (v ≡ Fine) × (j ≡ Accepted)
unfolding unless_broken
next_fine n Fine j e = (refl, e)
next_fine n (Bad p) j e = let z : ◌≡◌ {A = ℕ} 0 1 = cc in absurd (omega arith)

-- judges that ask what rules ask, one by one
pub data Say : List Judge → List Rule → Type 0 where
  none : Say [] []
  more : {j : Judge} {r : Rule} {js : List Judge} {rs : List Rule} → Says j r → Say js rs → Say (j ∷ js) (r ∷ rs)

-- rules that all hold of a file
pub data Hold (xs : List ℕ) : List Rule → Type 0 where
  nil : Hold xs []
  cons : {r : Rule} {rs : List Rule} → Holds r xs → Hold xs rs → Hold xs (r ∷ rs)

all_hold : {js : List Judge} {rs : List Rule} → Say js rs → (n : ℕ) (xs : List ℕ) → judged_from n js xs ≡ Accepted → Hold xs rs
unfolding judged_from
all_hold none n xs e = nil
all_hold (more {j} {r} {js} s t) n xs e =
    let a = next_fine n (verdict_by j xs) (judged_from (n + 1) js xs) e in
    cons (fine_all j r s DEPTH FILE xs 0 0 a.0) (all_hold t (n + 1) xs a.1)

-- a rule that holds is passed
pub skip : {j : Judge} {r : Rule} → Says j r → (n : ℕ) (js : List Judge) (xs : List ℕ) → Holds r xs → judged_from n (j ∷ js) xs ≡ judged_from (n + 1) js xs
unfolding judged_from unless_broken
skip {j} {r} s n js xs h = rw (all_fine j r s DEPTH FILE xs 0 0 h)

hold_all : {js : List Judge} {rs : List Rule} → Say js rs → (n : ℕ) (xs : List ℕ) → Hold xs rs → judged_from n js xs ≡ Accepted
unfolding judged_from
hold_all none n xs nil = refl
hold_all (more {j} {r} {js} s t) n xs (cons h g) = skip s n js xs h ∙ hold_all t (n + 1) xs g

-- ---- rules 1 to 10

pub rules_say : (l : List Box) → Say (judges l) (rules l)
rules_say l =
    more (placed_says one_rule) (more (each_says shut_in tiled_rule) (more (placed_says three_rule) (more four_says (more five_says (more (placed_says six_rule)
    (more (placed_says seven_rule) (more (eight_says l) (more nine_says (more (ten_says (release_of l)) none)))))))))

all_meet_lem : (xs : List ℕ) → Hold xs (rules (boxes xs)) → Meets xs
all_meet_lem xs (cons b (cons c (cons d (cons e (cons f (cons g (cons h (cons i (cons j (cons k nil)))))))))) =
    let a = holds_one xs b in
    record { least = a.0; most = a.1; two = c; three = d; four = e; five = f; six = g; seven = h; eight = i; nine = j; ten = k }

pub meet_all : (xs : List ℕ) → Meets xs → Hold xs (rules (boxes xs))
meet_all xs m =
    cons (one_holds xs m.least m.most) (cons m.two (cons m.three (cons m.four (cons m.five
    (cons m.six (cons m.seven (cons m.eight (cons m.nine (cons m.ten nil)))))))))

-- ---- demand 2

-- a file that is accepted meets the rules
pub accepted_meets : (xs : List ℕ) → judged xs ≡ Accepted → Meets xs
unfolding judged
accepted_meets xs e = all_meet_lem xs (all_hold (rules_say (boxes xs)) 1 xs e)

-- and a file that meets the rules is accepted
pub meets_accepted : (xs : List ℕ) → Meets xs → judged xs ≡ Accepted
unfolding judged
meets_accepted xs m = hold_all (rules_say (boxes xs)) 1 xs (meet_all xs m)
