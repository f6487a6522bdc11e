-- Acceptance has no places: a judge finds nothing broken exactly where its rule holds of all. Assumes nothing.
use Prim.Native.Nat.{ℕ, zero, suc, ◌+◌}
use mathlib.Core.Path.{◌≡◌, refl, sym, ap, ◌∙◌}
use mathlib.Core.Bool.{Bool, true}
use mathlib.Core.List.{List, [], ◌∷◌}
use Rattle.wire.proofs.Tests.{through}
use Rattle.boxes.specs.Box.{Box, head, size}
use Rattle.boxes.specs.Boxes.{boxes, after}
use Rattle.boxes.specs.Containers.{kind_in}
use Rattle.rule.specs.Verdict.{unless, is_fine, Verdict, Fine}
use Rattle.rule.specs.Judge.{Judge, judge_list, judge_box, judge_in}
use Rattle.rule.specs.Rule.{Rule, all_list, all_box, all_in, placed_by, with_each, Says}
use Rattle.rule.proofs.Places.{fine_is, sooner_fine, unless_fine}

pub list_fine : (j : Box → ℕ → Verdict) (e : ℕ → Verdict) (f : Box → Bool) (t : Bool) → ((x : Box) (p : ℕ) → is_fine (j x p) ≡ f x) → ((p : ℕ) → is_fine (e p) ≡ t)
    → (l : List Box) (p : ℕ) → is_fine (judge_list j e l p) ≡ all_list f t l
unfolding judge_list all_list
list_fine j e f t h g [] p = g p
list_fine j e f t h g (x ∷ l) p = sooner_fine (j x p) (judge_list j e l (p + size x)) ∙ rw (h x p, list_fine j e f t h g l (p + size x))

-- a rule with a test of each box
pub each_says : (t : ℕ → Box → Bool) (r : Rule) → Says (placed_by t r) (with_each t r)
each_says t r =
    record {
      leaf = λ k c b p q. unless_fine _ p;
      node = λ k xs home p. sooner_fine _ _ ∙ rw (unless_fine (r.node k xs) home, list_fine (λ x q. unless (t k x) q) (λ q. Fine) (t k) true (λ x q. unless_fine (t k x) q) (λ q. refl) (boxes xs) p);
      end = λ xs p. unless_fine _ p;
    }

module _ (j : Judge) (r : Rule) (s : Says j r) where
  box_fine : (d k : ℕ) → ((i : ℕ) (ys : List ℕ) (h q : ℕ) → is_fine (judge_in j d i ys h q) ≡ all_in r d i ys) → (x : Box) (p : ℕ) → is_fine (judge_box j (judge_in j d) k x p) ≡ all_box r (all_in r d) k x
  unfolding judge_box all_box
  box_fine d k ih x p =
      through is_fine (kind_in k x.code) 0 (j.leaf k x.code x.body p (p + head x)) (judge_in j d (kind_in k x.code) x.body p (p + head x))
      ∙ rw (s.leaf k x.code x.body p (p + head x), ih (kind_in k x.code) x.body p (p + head x))

  pub judge_fine : (d k : ℕ) (xs : List ℕ) (home p : ℕ) → is_fine (judge_in j d k xs home p) ≡ all_in r d k xs
  unfolding judge_in all_in
  judge_fine zero k xs home p = refl
  judge_fine (suc d) k xs home p =
      sooner_fine (j.node k xs home p) (judge_list (judge_box j (judge_in j d) k) (j.end (after xs)) (boxes xs) p)
      ∙ rw (s.node k xs home p, list_fine (judge_box j (judge_in j d) k) (j.end (after xs)) (all_box r (all_in r d) k) (r.end (after xs)) (box_fine d k (λ i ys h q. judge_fine d i ys h q)) (λ q. s.end (after xs) q) (boxes xs) p)

  -- both ways
  pub fine_all : (d k : ℕ) (xs : List ℕ) (home p : ℕ) → judge_in j d k xs home p ≡ Fine → all_in r d k xs ≡ true
  fine_all d k xs home p e = sym (judge_fine d k xs home p) ∙ ap is_fine e

  pub all_fine : (d k : ℕ) (xs : List ℕ) (home p : ℕ) → all_in r d k xs ≡ true → judge_in j d k xs home p ≡ Fine
  all_fine d k xs home p e = fine_is _ (judge_fine d k xs home p ∙ e)
