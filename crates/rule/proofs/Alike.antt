-- Two judges that say the same of each container where a claim P holds, which goes down to what it holds, give one verdict. Assumes nothing.
use Prim.Native.Nat.{ℕ, zero, suc, ◌+◌}
use mathlib.Core.Path.{◌≡◌, refl, sym, ◌∙◌}
use mathlib.Core.Bool.{Bool, true}
use mathlib.Core.List.{List, [], ◌∷◌}
use Rattle.wire.proofs.Tests.{eq_yea, eq_nay, eq_or}
use Rattle.boxes.specs.Box.{Box, head, size}
use Rattle.boxes.specs.Boxes.{boxes, after}
use Rattle.boxes.specs.Containers.{kind_in}
use Rattle.boxes.proofs.Reading.{All, all_of}
use Rattle.boxes.proofs.Reading.All.{none, some}
use Rattle.boxes.proofs.Every.{all_map}
use Rattle.rule.specs.Verdict.{sooner, unless, Verdict, Fine}
use Rattle.rule.specs.Rule.{Rule, placed, placed_by}
use Rattle.rule.proofs.Places.{sooner_none}
use Rattle.rule.specs.Judge.{Judge, judge_list, judge_box, judge_in}

list_same : (f g : Box → ℕ → Verdict) (e : ℕ → Verdict) {l : List Box} → All (λ x. (p : ℕ) → f x p ≡ g x p) l → (p : ℕ) → judge_list f e l p ≡ judge_list g e l p
unfolding judge_list
list_same f g e none p = refl
list_same f g e (some {x} {l} h a) p = rw (h p, list_same f g e a (p + size x))

-- they differ in what they say of containers alone
module _ (i j : ℕ → List ℕ → ℕ → ℕ → Verdict) (leaf : ℕ → ℕ → List ℕ → ℕ → ℕ → Verdict) (end : List ℕ → ℕ → Verdict) (P : ℕ → ℕ → List ℕ → Type 0)
    (inside : (d k : ℕ) (xs : List ℕ) → P (suc d) k xs → All (λ x. (kind_in k x.code ≡ 0 → ⊥) → P d (kind_in k x.code) x.body) (boxes xs))
    (node : (d k : ℕ) (xs : List ℕ) (home p : ℕ) → P (suc d) k xs → i k xs home p ≡ j k xs home p) where
  abbrev one : Judge
  one = record { leaf = leaf; node = i; end = end }

  abbrev other : Judge
  other = record { leaf = leaf; node = j; end = end }

  pub same_verdict : (d k : ℕ) (xs : List ℕ) (home p : ℕ) → P d k xs → judge_in one d k xs home p ≡ judge_in other d k xs home p
  unfolding judge_in judge_box
  same_verdict zero k xs home p h = refl
  same_verdict (suc d) k xs home p h =
      rw (
        node d k xs home p h,
        list_same (judge_box one (judge_in one d) k) (judge_box other (judge_in other d) k) (end (after xs))
            (all_map (λ x t q.
            eq_or (kind_in k x.code) 0
            (λ z. sym (eq_yea _ _ _ _ _ z refl) ∙ eq_yea _ _ _ _ _ z refl)
            (λ z. sym (eq_nay _ _ _ _ _ z refl) ∙ same_verdict d (kind_in k x.code) x.body q (q + head x) (t z) ∙ eq_nay _ _ _ _ _ z refl)) (inside d k xs h)) p,
      )

-- a test that every box passes is no test
none_fails : (f : Box → Bool) → ((x : Box) → f x ≡ true) → (l : List Box) (p : ℕ) → judge_list (λ x q. unless (f x) q) (λ q. Fine) l p ≡ Fine
unfolding judge_list unless sooner
none_fails f h [] p = refl
none_fails f h (x ∷ l) p = rw (h x) (none_fails f h l (p + size x))

pub no_test : (t : ℕ → Box → Bool) (r : Rule) → ((k : ℕ) (x : Box) → t k x ≡ true) → (d k : ℕ) (xs : List ℕ) (home p : ℕ)
    → judge_in (placed_by t r) d k xs home p ≡ judge_in (placed r) d k xs home p
no_test t r h d k xs home p =
    same_verdict (placed_by t r).node (placed r).node (placed r).leaf (placed r).end (λ d k xs. Unit)
    (λ d k xs u. all_of (λ x z. tt) (boxes xs))
    (λ d k xs home p u. rw (none_fails (t k) (h k) (boxes xs) p) (sooner_none _)) d k xs home p tt
