-- The loop over the boxes of a container: the same for every rule. Assumes nothing.
use Prim.Native.Nat.{ℕ, ◌+◌, ◌≤◌}
use native.Mathlib.Omega.{arith}
use mathlib.Core.Path.{◌≡◌, sym, ap, ◌∙◌}
use mathlib.Core.List.{List}
use lib.ListN.{length, drop}
use Rattle.boxes.specs.declared.walk.Walk.{Walk}
use Rattle.boxes.specs.declared.walk.BoxAt.{BoxAt}
use Rattle.boxes.specs.Box.{Box}
use Rattle.boxes.specs.Boxes.{boxes}
use Rattle.boxes.specs.Walk.{box_at, Ran, Over}
use Rattle.boxes.proofs.Seeking.{ran_next}
use Rattle.rule.specs.Verdict.{sooner, Verdict}
use Rattle.rule.specs.Judge.{judge_list}
use Rattle.rule.proofs.Places.{sooner_then}

-- of the verdict `whole` what is found before place at, and what is left from there on
pub record Found (f : Box → ℕ → Verdict) (e : ℕ → Verdict) (xs : List ℕ) (base : ℕ) (whole found : Verdict) (at : ℕ) : Type 0 where
  pub is : whole ≡ sooner found (judge_list f e (boxes (drop at xs)) (base + at))
  pub inside : at ≤ length xs

module _ (f : Box → ℕ → Verdict) (e : ℕ → Verdict) (xs : List ℕ) (base : ℕ) where
  pub found_none : (node : Verdict) → Found f e xs base (sooner node (judge_list f e (boxes xs) base)) node 0
  found_none node = record { is = let z : base + 0 ≡ base = omega arith in rw z; inside = omega arith }

  module _ {whole found : Verdict} {at : ℕ} (i : Found f e xs base whole found at) where
    pub found_more : {b : BoxAt} {w : Walk} → Ran xs at b w → {v : Verdict} → v ≡ f (box_at xs b) (base + b.at) → {u : Verdict} → u ≡ sooner found v → Found f e xs base whole u w.at
    unfolding judge_list
    found_more {b} {w} s {v} q {u} r =
        let h : base + at ≡ base + b.at = omega (arith, s.start) in
        let l : judge_list f e (boxes (drop at xs)) (base + at) ≡ sooner v (judge_list f e (boxes (drop w.at xs)) (base + w.at)) = rw (s.list, ran_next s base, q) (ap (λ (p : ℕ). sooner (f (box_at xs b) p) (judge_list f e (boxes (drop w.at xs)) (base + w.at))) h) in
        record {
          is = i.is ∙ rw (l, r) (sym (sooner_then found v (judge_list f e (boxes (drop w.at xs)) (base + w.at))));
          inside = omega (arith, s.next, s.inside);
        }

    pub found_over : Over xs at → sooner found (e (base + at)) ≡ whole
    unfolding judge_list
    found_over o = sym (i.is ∙ rw o.list)
