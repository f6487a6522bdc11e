-- What a rule says of a container, part by part, and back. Assumes nothing.
use Prim.Native.Nat.{ℕ, suc}
use mathlib.Core.Path.{◌≡◌, refl, sym, ap, subst, ◌∙◌}
use mathlib.Core.Bool.{Bool, true}
use mathlib.Core.List.{List, [], ◌∷◌}
use Rattle.wire.proofs.Tests.{both, eq_yea, eq_nay, eq_or}
use Rattle.boxes.specs.Box.{Box}
use Rattle.boxes.specs.Boxes.{boxes, after}
use Rattle.boxes.specs.Containers.{kind_in}
use Rattle.boxes.proofs.Reading.{All}
use Rattle.boxes.proofs.Reading.All.{none, some}
use Rattle.boxes.proofs.Every.{all_map, all_with}
use Rattle.rule.specs.Rule.{Rule, all_list, all_box, all_in}

-- ---- a test of each box

pub list_each : (p : Box → Bool) (t : Bool) (l : List Box) → all_list p t l ≡ true → All (λ x. p x ≡ true) l × (t ≡ true)
unfolding all_list
list_each p t [] q = (none, q)
list_each p t (x ∷ l) q =
    let u = both (p x) (all_list p t l) q in
    let v = list_each p t l u.1 in
    (some u.0 v.0, v.1)

pub each_list : (p : Box → Bool) (t : Bool) {l : List Box} → All (λ x. p x ≡ true) l → t ≡ true → all_list p t l ≡ true
unfolding all_list
each_list p t none h = h
each_list p t (some e a) h = rw e (each_list p t a h)

-- ---- a container

-- of itself, of each opaque box in it, of each container in it, d deep, and of the bytes past the last box
pub record Opened (r : Rule) (d k : ℕ) (xs : List ℕ) : Type 0 where
  pub node : r.node k xs ≡ true
  pub leaves : All (λ x. kind_in k x.code ≡ 0 → r.leaf k x.code x.body ≡ true) (boxes xs)
  pub inside : All (λ x. (kind_in k x.code ≡ 0 → ⊥) → all_in r d (kind_in k x.code) x.body ≡ true) (boxes xs)
  pub end : r.end (after xs) ≡ true

module _ (r : Rule) (d k : ℕ) (xs : List ℕ) where
  pub opened : all_in r (suc d) k xs ≡ true → Opened r d k xs
  unfolding all_in all_box
  opened q =
      let u = both (r.node k xs) _ q in
      let v = list_each _ _ (boxes xs) u.1 in
      record {
        node = u.0;
        leaves = all_map (λ x e z. eq_yea _ _ _ _ _ z refl ∙ e) v.0;
        inside = all_map (λ x e z. eq_nay _ _ _ _ _ z refl ∙ e) v.0;
        end = v.1;
      }

  pub closed : Opened r d k xs → all_in r (suc d) k xs ≡ true
  unfolding all_in all_box
  closed o = rw o.node (each_list _ _ (all_with (λ x p q. sym (eq_or (kind_in k x.code) 0 (λ z. eq_yea _ _ _ _ _ z (sym (p z))) (λ z. eq_nay _ _ _ _ _ z (sym (q z))))) o.leaves o.inside) o.end)

-- the boxes of one code
module _ {r : Rule} {d k : ℕ} {xs : List ℕ} (o : Opened r d k xs) (c : ℕ) where
  pub leaves_of : kind_in k c ≡ 0 → All (λ x. x.code ≡ c → r.leaf k c x.body ≡ true) (boxes xs)
  leaves_of z = all_map (λ x p e. subst (λ (i : ℕ). r.leaf k i x.body ≡ true) e (p (ap (kind_in k) e ∙ z))) o.leaves

  pub inside_of : (kind_in k c ≡ 0 → ⊥) → All (λ x. x.code ≡ c → all_in r d (kind_in k c) x.body ≡ true) (boxes xs)
  inside_of z = all_map (λ x p e. subst (λ (i : ℕ). all_in r d (kind_in k i) x.body ≡ true) e (p (λ y. z (ap (kind_in k) (sym e) ∙ y)))) o.inside
