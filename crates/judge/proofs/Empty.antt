-- Rule 2 asks nothing of an empty box but its form. Assumes nothing.
use Prim.Native.Nat.{ℕ, zero, suc, ◌+◌, ◌-◌}
use native.Mathlib.Omega.{arith}
use mathlib.Core.Path.{◌≡◌, refl}
use mathlib.Core.Bool.{true}
use mathlib.Core.List.{List, []}
use Rattle.wire.specs.Tests.{if_eq}
use Rattle.wire.specs.Clauses.{is_eq}
use Rattle.wire.proofs.Tests.{eq_any}
use Rattle.boxes.specs.declared.walk.BoxAt.{BoxAt}
use Rattle.boxes.specs.Boxes.{boxes, total, after}
use Rattle.boxes.specs.Containers.{kind_in}
use Rattle.boxes.specs.Walk.{payload, box_at}
use Rattle.rule.specs.Verdict.{sooner, unless, Fine}
use Rattle.rule.specs.Judge.{judge_list, judge_box, judge_in}
use Rattle.rule.proofs.Places.{unless_yea}
use Rattle.judge.specs.Asked.{shaped_by, tiled_by, first_by}

nothing_fine : (d k home p : ℕ) → Fine ≡ judge_in (first_by 2) d k [] home p
unfolding judge_in judge_list shaped_by tiled_by boxes after total is_eq if_eq unless sooner
nothing_fine zero k home p = refl
nothing_fine (suc d) k home p = refl

empty_fine : (n d k : ℕ) (xs : List ℕ) (b : BoxAt) (home p : ℕ) → n ≡ 2 → b.span ≡ b.head
    → Fine ≡ judge_in (first_by n) d k (payload xs b) home p
empty_fine n d k xs b home p e f = let z : b.at + b.span - (b.at + b.head) ≡ 0 = omega arith in rw (e, z) (nothing_fine d k home p)

pub box_empty : (n d k : ℕ) (xs : List ℕ) (b : BoxAt) (p : ℕ) → n ≡ 2 → b.span ≡ b.head → Fine ≡ judge_box (first_by n) (judge_in (first_by n) d) k (box_at xs b) p
unfolding judge_box
box_empty n d k xs b p e f = eq_any (λ v. Fine ≡ v) (kind_in k b.code) 0 _ _ (unless_yea true p refl) (empty_fine n d (kind_in k b.code) xs b p _ e f)
