-- What an edit keeps: where leaves, containers and ends keep a rule, the whole keeps it. Assumes nothing.
use Prim.Native.Nat.{ℕ, zero, suc}
use mathlib.Core.Path.{◌≡◌, refl, sym, ap, subst, ◌∙◌}
use mathlib.Core.Bool.{Bool, true}
use mathlib.Core.List.{List}
use Rattle.wire.specs.Tests.{if_eq}
use Rattle.wire.proofs.Tests.{eq_kept}
use Rattle.boxes.specs.Boxes.{after}
use Rattle.boxes.specs.Containers.{kind_in}
use Rattle.boxes.specs.Kin.{Leaf, Kin}
use Rattle.boxes.proofs.Every.{all_along}
use Rattle.rule.specs.Rule.{Rule, all_in}
use Rattle.rule.proofs.Opened.{opened, closed}

-- the rule may change with the file: r of the one, s of the other
module _ (r s : Rule) (G : Leaf)
    (leaf : (k c : ℕ) (b b' : List ℕ) → kind_in k c ≡ 0 → G k c b b' → r.leaf k c b ≡ true → s.leaf k c b' ≡ true)
    (node : (d k : ℕ) (xs ys : List ℕ) → Kin G (suc d) k xs ys → r.node k xs ≡ true → s.node k ys ≡ true)
    (end : (xs : List ℕ) → r.end xs ≡ true → s.end xs ≡ true) where
  pub keep : (d k : ℕ) (xs ys : List ℕ) → Kin G d k xs ys → all_in r d k xs ≡ true → all_in s d k ys ≡ true
  unfolding all_in
  keep zero k xs ys e q = refl
  keep (suc d) k xs ys (a, e) q =
      let o = opened r d k xs q in
      closed s d k ys (record {
        node = node d k xs ys (a, e) o.node;
        leaves = all_along (λ x y w p. rw (← w.code) (λ z. leaf k x.code x.body y.body z (w.leaf z) (p z))) a o.leaves;
        inside = all_along (λ x y w p. rw (← w.code) (λ z. keep d (kind_in k x.code) x.body y.body (w.node z) (p z))) a o.inside;
        end = ap s.end (sym e) ∙ end (after xs) o.end;
      })

-- a rule of one kind of container
pub kept_at : (G : Leaf) (K : ℕ) (f g : List ℕ → Bool) (d k : ℕ) (xs ys : List ℕ) → (Kin G (suc d) K xs ys → f xs ≡ true → g ys ≡ true)
    → Kin G (suc d) k xs ys → if_eq k K (f xs) true ≡ true → if_eq k K (g ys) true ≡ true
kept_at G K f g d k xs ys h a = eq_kept k K (f xs) (g ys) true true (λ e. h (subst (λ (j : ℕ). Kin G (suc d) j xs ys) e a)) (λ q. q)
