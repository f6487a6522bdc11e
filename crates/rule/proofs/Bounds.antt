-- A verdict names a place of what was judged, where each judge names one of what it was shown. Assumes nothing.
use Prim.Native.Nat.{ℕ, zero, suc, ◌+◌, ◌≤◌}
use native.Mathlib.Omega.{arith}
use mathlib.Core.Path.{◌≡◌}
use mathlib.Core.Bool.{Bool, true, false}
use mathlib.Core.List.{List, [], ◌∷◌}
use lib.ListN.{length}
use Rattle.wire.specs.Tests.{if_eq}
use Rattle.wire.proofs.Tests.{eq_any}
use Rattle.boxes.specs.Box.{Box, head, size}
use Rattle.boxes.specs.Boxes.{boxes, total, after}
use Rattle.boxes.specs.Containers.{kind_in}
use Rattle.boxes.proofs.Placing.{total_is}
use Rattle.rule.specs.Verdict.{sooner, unless, Verdict, Fine, Bad}
use Rattle.rule.specs.Judge.{Judge, judge_list, judge_box, judge_in}
use Rattle.rule.specs.Rule.{Rule, placed, placed_by}

-- the place that a verdict names, and 0 where nothing is broken
abbrev pub named : Verdict → ℕ
named Fine = 0
named (Bad p) = p

-- a judge names no place past the end of a box, of a container or of the bytes past the last box
pub record Bounded (j : Judge) : Type 0 where
  pub leaf : (k c : ℕ) (b : List ℕ) (p q : ℕ) → p ≤ q → named (j.leaf k c b p q) ≤ q + length b
  pub node : (k : ℕ) (xs : List ℕ) (home p : ℕ) → home ≤ p → named (j.node k xs home p) ≤ p + length xs
  pub end : (xs : List ℕ) (p : ℕ) → named (j.end xs p) ≤ p + length xs

-- ---- verdicts

pub sooner_most : (m : ℕ) (u v : Verdict) → named u ≤ m → named v ≤ m → named (sooner u v) ≤ m
unfolding sooner
sooner_most m Fine v h g = g
sooner_most m (Bad p) Fine h g = h
sooner_most m (Bad p) (Bad q) h g = omega arith

pub unless_most : (m : ℕ) (t : Bool) (p : ℕ) → p ≤ m → named (unless t p) ≤ m
unfolding unless
unless_most m true p h = omega arith
unless_most m false p h = h

-- of one kind of container, or of one code
pub if_most : (m i k : ℕ) (v : Verdict) → named v ≤ m → named (if_eq i k v Fine) ≤ m
if_most m i k v h = eq_any (λ u. named u ≤ m) i k v Fine h (omega arith)

-- boxes from place p on, and then the end
pub list_most : (m : ℕ) (f : Box → ℕ → Verdict) (e : ℕ → Verdict) → ((x : Box) (p : ℕ) → named (f x p) ≤ p + size x)
    → (l : List Box) (p : ℕ) → p + total l ≤ m → ((q : ℕ) → q ≡ p + total l → named (e q) ≤ m) → named (judge_list f e l p) ≤ m
unfolding judge_list total
list_most m f e h [] p n g = g p (omega arith)
list_most m f e h (x ∷ l) p n g =
    sooner_most m (f x p) (judge_list f e l (p + size x)) (omega (arith, h x p)) (list_most m f e h l (p + size x) (omega arith) (λ q i. g q (omega arith)))

-- ---- judges

pub placed_bounded : (r : Rule) → Bounded (placed r)
placed_bounded r =
    record {
      leaf = λ k c b p q h. unless_most _ (r.leaf k c b) p (omega arith);
      node = λ k xs home p h. unless_most _ (r.node k xs) home (omega arith);
      end = λ xs p. unless_most _ (r.end xs) p (omega arith);
    }

pub each_bounded : (t : ℕ → Box → Bool) (r : Rule) → Bounded (placed_by t r)
each_bounded t r =
    record {
      leaf = (placed_bounded r).leaf;
      node = λ k xs home p h.
          let n = total_is xs in
          sooner_most _ _ _ ((placed_bounded r).node k xs home p h)
          (list_most _ (λ x q. unless (t k x) q) (λ q. Fine) (λ x q. unless_most _ (t k x) q (omega arith)) (boxes xs) p (omega arith) (λ q e. omega arith));
      end = (placed_bounded r).end;
    }

-- ---- all that a container holds

module _ (j : Judge) (b : Bounded j) where
  pub judge_most : (d k : ℕ) (xs : List ℕ) (home p : ℕ) → home ≤ p → named (judge_in j d k xs home p) ≤ p + length xs
  unfolding judge_in judge_box
  judge_most zero k xs home p h = omega arith
  judge_most (suc d) k xs home p h =
      let t = total_is xs in
      sooner_most (p + length xs) (j.node k xs home p) (judge_list (judge_box j (judge_in j d) k) (j.end (after xs)) (boxes xs) p)
      (b.node k xs home p h)
      (list_most (p + length xs) (judge_box j (judge_in j d) k) (j.end (after xs))
      (λ x q. eq_any (λ v. named v ≤ q + size x) (kind_in k x.code) 0 _ _
      (omega (arith, b.leaf k x.code x.body q (q + head x) (omega arith))) (omega (arith, judge_most d (kind_in k x.code) x.body q (q + head x) (omega arith))))
      (boxes xs) p (omega arith) (λ q i. omega (arith, b.end (after xs) q)))
