-- The same rule without places: what acceptance means.
use Rattle.std.specs.Prelude.{ℕ, zero, suc, ◌≡◌, Bool, true, false, List, [], ◌∷◌}
use Rattle.wire.specs.Tests.{pick, if_eq}
use Rattle.boxes.specs.Box.{Box}
use Rattle.boxes.specs.Boxes.{boxes, after}
use Rattle.boxes.specs.Containers.{kind_in}
use Rattle.rule.specs.Verdict.{sooner, unless, is_fine, Fine}
use Rattle.rule.specs.Judge.{Judge, judge_list}

pub record Rule : Type 0 where
  pub leaf : ℕ → ℕ → List ℕ → Bool
  pub node : ℕ → List ℕ → Bool
  pub end : List ℕ → Bool

unfoldable pub all_list : (Box → Bool) → Bool → List Box → Bool
all_list f e [] = e
all_list f e (x ∷ l) = pick (f x) (all_list f e l) false

unfoldable pub all_box : Rule → (ℕ → List ℕ → Bool) → ℕ → Box → Bool
all_box r go k x = if_eq (kind_in k x.code) 0 (r.leaf k x.code x.body) (go (kind_in k x.code) x.body)

unfoldable pub all_in : Rule → ℕ → ℕ → List ℕ → Bool
all_in r zero k xs = true
all_in r (suc d) k xs = pick (r.node k xs) (all_list (all_box r (λ i ys. all_in r d i ys) k) (r.end (after xs)) (boxes xs)) false

-- the judge that names what breaks a rule by its own place: an opaque box, a container, the bytes past the last whole box
abbrev pub placed : Rule → Judge
placed r =
    record {
      leaf = λ k c b p q. unless (r.leaf k c b) p;
      node = λ k xs home p. unless (r.node k xs) home;
      end = λ xs p. unless (r.end xs) p;
    }

-- the same with a test of each box of a container of kind k: one that fails it is named by its own place too
abbrev pub placed_by : (ℕ → Box → Bool) → Rule → Judge
placed_by t r =
    record {
      leaf = (placed r).leaf;
      node = λ k xs home p. sooner ((placed r).node k xs home p) (judge_list (λ x q. unless (t k x) q) (λ q. Fine) (boxes xs) p);
      end = (placed r).end;
    }

abbrev pub with_each : (ℕ → Box → Bool) → Rule → Rule
with_each t r = record { leaf = r.leaf; node = λ k xs. pick (r.node k xs) (all_list (t k) true (boxes xs)) false; end = r.end }

-- a judge that asks what a rule asks, with places
pub record Says (j : Judge) (r : Rule) : Type 0 where
  pub leaf : (k c : ℕ) (b : List ℕ) (p q : ℕ) → is_fine (j.leaf k c b p q) ≡ r.leaf k c b
  pub node : (k : ℕ) (xs : List ℕ) (home p : ℕ) → is_fine (j.node k xs home p) ≡ r.node k xs
  pub end : (xs : List ℕ) (p : ℕ) → is_fine (j.end xs p) ≡ r.end xs
