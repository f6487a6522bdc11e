-- Two rules as one hold exactly where both do. Assumes nothing.
use Prim.Native.Nat.{ℕ, zero, suc}
use native.Mathlib.Omega.{arith}
use mathlib.Core.Path.{◌≡◌, refl}
use mathlib.Core.Bool.{Bool, true, false}
use mathlib.Core.List.{List}
use Rattle.std.proofs.lemmas.Bool.{false≢true}
use Rattle.wire.proofs.Tests.{both}
use Rattle.boxes.specs.Boxes.{after}
use Rattle.boxes.specs.Containers.{kind_in}
use Rattle.boxes.proofs.Every.{all_map, all_with}
use Rattle.rule.specs.Rule.{Rule, all_in}
use Rattle.rule.proofs.Opened.{opened, closed}
use Rattle.rule_all.specs.All.{also, Sure, SureBefore}

module _ (r s : Rule) where
  pub also_first : (d k : ℕ) (xs : List ℕ) → all_in (also r s) d k xs ≡ true → all_in r d k xs ≡ true
  unfolding all_in
  also_first zero k xs q = refl
  also_first (suc d) k xs q =
      let o = opened (also r s) d k xs q in
      closed r d k xs (record {
        node = (both (r.node k xs) _ o.node).0;
        leaves = all_map (λ x p z. (both _ _ (p z)).0) o.leaves;
        inside = all_map (λ x p z. also_first d (kind_in k x.code) x.body (p z)) o.inside;
        end = (both _ _ o.end).0;
      })

  pub also_second : (d k : ℕ) (xs : List ℕ) → all_in (also r s) d k xs ≡ true → all_in s d k xs ≡ true
  unfolding all_in
  also_second zero k xs q = refl
  also_second (suc d) k xs q =
      let o = opened (also r s) d k xs q in
      closed s d k xs (record {
        node = (both (r.node k xs) _ o.node).1;
        leaves = all_map (λ x p z. (both (r.leaf k x.code x.body) _ (p z)).1) o.leaves;
        inside = all_map (λ x p z. also_second d (kind_in k x.code) x.body (p z)) o.inside;
        end = (both (r.end (after xs)) _ o.end).1;
      })

  pub also_both : (d k : ℕ) (xs : List ℕ) → all_in r d k xs ≡ true → all_in s d k xs ≡ true → all_in (also r s) d k xs ≡ true
  unfolding all_in
  also_both zero k xs q p = refl
  also_both (suc d) k xs q p =
      let o = opened r d k xs q in
      let e = opened s d k xs p in
      closed (also r s) d k xs (record {
        node = rw o.node e.node;
        leaves = all_with (λ x f g z. rw (f z) (g z)) o.leaves e.leaves;
        inside = all_with (λ x f g z. also_both d (kind_in k x.code) x.body (f z) (g z)) o.inside e.inside;
        end = rw o.end e.end;
      })

-- an answer of 0 says nothing
pub sure_none : (t : Bool) → Sure false t
sure_none t = record { holds = λ n. absurd (false≢true n) }

-- and one of 2 neither
pub sure_before_none : (xs : List ℕ) → SureBefore xs 2
sure_before_none xs = record { low = λ h. refl; most = omega arith; nine = λ h. absurd (omega arith); ten = λ h. absurd (omega arith) }
