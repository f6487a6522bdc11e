-- What the code of the traversal cites. Assumes nothing.
use Prim.Native.Nat.{ℕ, zero, suc, ◌+◌, ◌-◌}
use native.Mathlib.Omega.{arith}
use mathlib.Core.Path.{◌≡◌, refl, sym, ◌∙◌}
use mathlib.Core.List.{List}
use Rattle.wire.proofs.Tests.{eq_yea, eq_nay}
use Rattle.boxes.specs.Box.{Box, head}
use Rattle.boxes.specs.Boxes.{after}
use Rattle.boxes.specs.Walk.{Over}
use Rattle.boxes.specs.Containers.{kind_in}
use Rattle.rule.specs.Verdict.{Verdict, Fine}
use Rattle.rule.specs.Judge.{Judge, judge_box, judge_in}
use Rattle.rule.proofs.Places.{sooner_none}
use Rattle.rule.proofs.Traverse.{Found, found_none, found_over}

-- ---- a box

module _ (j : Judge) (go : ℕ → List ℕ → ℕ → ℕ → Verdict) (k : ℕ) (x : Box) (p : ℕ) {i h : ℕ} {v : Verdict} (w : h ≡ head x) where
  pub box_leaf : i ≡ kind_in k x.code → i ≡ 0 → v ≡ j.leaf k x.code x.body p (p + h) → v ≡ judge_box j go k x p
  unfolding judge_box
  box_leaf e z q = eq_yea _ _ _ _ _ (sym e ∙ z) (rw w at q)

  pub box_node : i ≡ kind_in k x.code → (i ≡ 0 → ⊥) → v ≡ go i x.body p (p + h) → v ≡ judge_box j go k x p
  unfolding judge_box
  box_node e z q = eq_nay _ _ _ _ _ (λ y. z (e ∙ y)) (rw (← e, ← w) q)

-- ---- what a container holds

module _ (j : Judge) where
  pub judge_shallow : (d k : ℕ) (xs : List ℕ) (home p : ℕ) → d ≡ 0 → Fine ≡ judge_in j d k xs home p
  unfolding judge_in
  judge_shallow d k xs home p e = rw e

  pub judge_start : (d k : ℕ) (xs : List ℕ) (home p : ℕ) {v : Verdict} → (d ≡ 0 → ⊥) → v ≡ j.node k xs home p → Found (judge_box j (judge_in j (d - 1)) k) (j.end (after xs)) xs p (judge_in j d k xs home p) v 0
  unfolding judge_in
  judge_start zero k xs home p z e = absurd (z refl)
  judge_start (suc d) k xs home p {v} z e =
      let q : suc d - 1 ≡ d = omega arith in
      rw (q, ← e) (found_none (judge_box j (judge_in j d) k) (j.end (after xs)) xs p v)

-- ---- the end, which rules 4 to 10 don't look at

pub end_passed : (f : Box → ℕ → Verdict) {xs : List ℕ} {base : ℕ} {whole found : Verdict} {at : ℕ} → Found f (λ p. Fine) xs base whole found at → Over xs at → found ≡ whole
end_passed f {xs} {base} {found = found} i o = sym (sooner_none found) ∙ found_over f (λ p. Fine) xs base i o
