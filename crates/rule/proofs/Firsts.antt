-- A rule that names what breaks it by its own place names no place before what it was shown: the first that is broken is the soonest. Assumes nothing.
use Prim.Native.Nat.{ℕ, zero, suc, ◌+◌, ◌≤◌}
use native.Mathlib.Omega.{arith}
use mathlib.Core.Path.{◌≡◌, refl, sym, ap, ◌∙◌}
use mathlib.Core.Bool.{Bool, true, false}
use mathlib.Core.List.{List, [], ◌∷◌}
use lib.ListN.{drop}
use Rattle.wire.proofs.Tests.{eq_any}
use Rattle.boxes.specs.declared.walk.Walk.{Walk}
use Rattle.boxes.specs.declared.walk.BoxAt.{BoxAt}
use Rattle.boxes.specs.Box.{Box, head, size}
use Rattle.boxes.specs.Boxes.{boxes, after}
use Rattle.boxes.specs.Containers.{kind_in}
use Rattle.boxes.specs.Walk.{box_at, Ran, Over}
use Rattle.rule.specs.Verdict.{sooner, unless, Verdict, Fine, Bad}
use Rattle.rule.specs.Judge.{Judge, judge_list, judge_box, judge_in}
use Rattle.rule.specs.Rule.{Rule, placed, placed_by}
use Rattle.rule.proofs.Places.{sooner_then, sooner_turn, sooner_right, unless_yea, unless_nay}
use Rattle.rule.proofs.Bounds.{named}
use Rattle.rule.proofs.Traverse.{Found, found_more, found_over}

-- no place before m is named
pub record From (m : ℕ) (v : Verdict) : Type 0 where
  pub least : (p : ℕ) → v ≡ Bad p → m ≤ p

from_fine : (m : ℕ) → From m Fine
from_fine m = record { least = λ p e. let z : ◌≡◌ {A = ℕ} 0 1 = cc in absurd (omega arith) }

from_bad : (m p : ℕ) → m ≤ p → From m (Bad p)
from_bad m p h = record { least = λ q e. omega (arith, ap named e) }

from_unless : (m : ℕ) (t : Bool) (p : ℕ) → m ≤ p → From m (unless t p)
unfolding unless
from_unless m true p h = from_fine m
from_unless m false p h = from_bad m p h

from_sooner : (m : ℕ) (u v : Verdict) → From m u → From m v → From m (sooner u v)
unfolding sooner
from_sooner m Fine v a b = b
from_sooner m (Bad p) Fine a b = a
from_sooner m (Bad p) (Bad q) a b = from_bad m _ (omega (arith, a.least p refl, b.least q refl))

-- what is no sooner changes nothing
pub sooner_settled : (m p : ℕ) (v : Verdict) → p ≤ m → From m v → Bad p ≡ sooner (Bad p) v
unfolding sooner
sooner_settled m p Fine h a = refl
sooner_settled m p (Bad q) h a = ap Bad (omega (arith, a.least q refl))

from_list : (m : ℕ) (f : Box → ℕ → Verdict) (e : ℕ → Verdict) → ((x : Box) (p : ℕ) → From p (f x p)) → ((p : ℕ) → From p (e p))
    → (l : List Box) (p : ℕ) → m ≤ p → From m (judge_list f e l p)
unfolding judge_list
from_list m f e h g [] p n = record { least = λ q i. omega (arith, (g p).least q i) }
from_list m f e h g (x ∷ l) p n =
    from_sooner m (f x p) (judge_list f e l (p + size x)) (record { least = λ q i. omega (arith, (h x p).least q i) })
    (from_list m f e h g l (p + size x) (omega arith))

-- ---- a container, and the loop over its boxes

-- two judgements of a list are one, box by box
swap : (a b c d : Verdict) → sooner (sooner a b) (sooner c d) ≡ sooner (sooner a c) (sooner b d)
swap a b c d = sooner_then a b (sooner c d) ∙ ap (sooner a) (sym (sooner_then b c d) ∙ ap (λ (v : Verdict). sooner v d) (sooner_turn b c) ∙ sooner_then c b d) ∙ sym (sooner_then a c (sooner b d))

list_both : (f g : Box → ℕ → Verdict) (e : ℕ → Verdict) (l : List Box) (p : ℕ) → sooner (judge_list f (λ q. Fine) l p) (judge_list g e l p) ≡ judge_list (λ x q. sooner (f x q) (g x q)) e l p
unfolding judge_list sooner
list_both f g e [] p = refl
list_both f g e (x ∷ l) p = swap (f x p) _ (g x p) _ ∙ ap (sooner (sooner (f x p) (g x p))) (list_both f g e l (p + size x))

module _ (t : ℕ → Box → Bool) (r : Rule) where
  abbrev by : Judge
  by = placed_by t r

  -- what is asked of a box: its own test, and then as an opaque box or a container
  abbrev pub box_first : ℕ → ℕ → Box → ℕ → Verdict
  box_first d k x q = sooner (unless (t k x) q) (judge_box by (judge_in by d) k x q)

  pub first_start : (d k : ℕ) (xs : List ℕ) (home p : ℕ)
      → judge_in by (suc d) k xs home p ≡ sooner (unless (r.node k xs) home) (judge_list (box_first d k) ((placed r).end (after xs)) (boxes xs) p)
  unfolding judge_in
  first_start d k xs home p = sooner_then _ _ _ ∙ ap (sooner (unless (r.node k xs) home)) (list_both _ _ _ (boxes xs) p)

  -- a box as an opaque one or a container
  node_from : (d k : ℕ) → ((i : ℕ) (ys : List ℕ) (h q : ℕ) → h ≤ q → From h (judge_in by d i ys h q)) → (x : Box) (p : ℕ) → From p (judge_box by (judge_in by d) k x p)
  unfolding judge_box
  node_from d k ih x p =
      eq_any (From p) (kind_in k x.code) 0 _ _ (from_unless p (r.leaf k x.code x.body) p (omega arith))
      (ih (kind_in k x.code) x.body p (p + head x) (omega arith))

  box_from : (d k : ℕ) → ((i : ℕ) (ys : List ℕ) (h q : ℕ) → h ≤ q → From h (judge_in by d i ys h q)) → (x : Box) (p : ℕ) → From p (box_first d k x p)
  box_from d k ih x p = from_sooner p _ _ (from_unless p (t k x) p (omega arith)) (node_from d k ih x p)

  from_in : (d k : ℕ) (xs : List ℕ) (home p : ℕ) → home ≤ p → From home (judge_in by d k xs home p)
  unfolding judge_in
  from_in zero k xs home p h = from_fine home
  from_in (suc d) k xs home p h =
      rw (first_start d k xs home p)
      (from_sooner home _ _ (from_unless home (r.node k xs) home (omega arith))
      (from_list home _ _ (box_from d k (λ i ys g q z. from_in d i ys g q z)) (λ q. from_unless q (r.end (after xs)) q (omega arith)) (boxes xs) p h))

  pub judge_from : (d k : ℕ) (x : Box) (p : ℕ) → From p (judge_box by (judge_in by d) k x p)
  judge_from d k x p = node_from d k (from_in d) x p

  -- what is left from a place on
  left_from : (d k : ℕ) (xs : List ℕ) (l : List Box) (p : ℕ) → From p (judge_list (box_first d k) ((placed r).end (after xs)) l p)
  left_from d k xs l p = from_list p _ _ (box_from d k (from_in d)) (λ q. from_unless q (r.end (after xs)) q (omega arith)) l p (omega arith)

  -- the container itself
  pub first_node : (d k : ℕ) (xs : List ℕ) (home p : ℕ) → (d ≡ 0 → ⊥) → home ≤ p → r.node k xs ≡ false → Bad home ≡ judge_in by d k xs home p
  unfolding unless
  first_node zero k xs home p z h e = absurd (z refl)
  first_node (suc d) k xs home p z h e = rw (first_start d k xs home p, e) (sooner_settled p home _ h (left_from d k xs (boxes xs) p))

  -- a box of it, where nothing is broken before
  pub first_box : (d k : ℕ) {xs : List ℕ} {base p at : ℕ} {whole : Verdict} → Found (box_first d k) ((placed r).end (after xs)) xs base whole (Bad p) at → p ≤ base + at → Bad p ≡ whole
  first_box d k {xs} {base} {p} {at} i h = sooner_settled (base + at) p _ h (left_from d k xs (boxes (drop at xs)) (base + at)) ∙ sym i.is

-- ---- a list of boxes, each with a test of its own

module _ (t : Box → Bool) {xs : List ℕ} {base at : ℕ} {whole : Verdict} (i : Found (λ x q. unless (t x) q) (λ q. Fine) xs base whole Fine at) where
  module _ {b : BoxAt} {w : Walk} (s : Ran xs at b w) where
    pub listed_more : t (box_at xs b) ≡ true → Found (λ x q. unless (t x) q) (λ q. Fine) xs base whole Fine w.at
    listed_more e = found_more (λ x q. unless (t x) q) (λ q. Fine) xs base i s (unless_yea _ _ (sym e)) (sooner_right Fine Fine refl)

    pub listed_bad : t (box_at xs b) ≡ false → Bad (base + b.at) ≡ whole
    listed_bad e =
        let j = found_more (λ x q. unless (t x) q) (λ q. Fine) xs base i s (unless_nay _ _ (sym e)) (sooner_right Fine (Bad (base + b.at)) refl) in
        sooner_settled (base + w.at) (base + b.at) _ (omega (arith, s.next))
        (from_list (base + w.at) (λ x q. unless (t x) q) (λ q. Fine) (λ x q. from_unless q (t x) q (omega arith)) from_fine (boxes (drop w.at xs)) (base + w.at) (omega arith))
        ∙ sym j.is

  pub listed_over : Over xs at → Fine ≡ whole
  listed_over o = sooner_right Fine Fine refl ∙ found_over (λ x q. unless (t x) q) (λ q. Fine) xs base i o
