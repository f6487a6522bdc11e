-- The traversal of the rules that look at containers alone. Assumes nothing.
use Prim.Native.Nat.{ℕ, zero, suc, ◌+◌, ◌-◌, ◌≤◌, ◌<◌}
use native.Mathlib.Omega.{arith}
use mathlib.Core.Path.{◌≡◌, refl, sym, ap, ◌∙◌}
use mathlib.Core.Bool.{Bool, true, false}
use mathlib.Core.List.{List, []}
use lib.ListN.{length, drop, length-drop, drop_of_length-le}
use Rattle.wire.specs.Clauses.{is_eq}
use Rattle.wire.proofs.Tests.{eq_yea, eq_nay, eq_any, lt_yea, lt_nay}
use Rattle.wire.proofs.Clauses.{not_eq}
use Rattle.boxes.specs.declared.walk.Walk.{Walk}
use Rattle.boxes.specs.declared.walk.BoxAt.{BoxAt}
use Rattle.boxes.specs.Box.{Box, head, size}
use Rattle.boxes.specs.Boxes.{boxes, after}
use Rattle.boxes.specs.Containers.{FILE, DEPTH, kind_in}
use Rattle.boxes.specs.Walk.{box_at, Ran, Over}
use Rattle.boxes.proofs.Seeking.{ran_next}
use Rattle.rule.specs.Verdict.{sooner, unless, Verdict, Fine, Bad}
use Rattle.rule.specs.Judge.{Judge, judge_box, judge_in}
use Rattle.rule.specs.Rule.{Rule, placed, placed_by}
use Rattle.rule.proofs.Places.{sooner_right}
use Rattle.rule.proofs.Bounds.{named, sooner_most, unless_most, each_bounded, judge_most}
use Rattle.rule.proofs.Traverse.{Found, found_none, found_more, found_over}
use Rattle.rule.proofs.Firsts.{sooner_settled, box_first, first_start, judge_from, first_node, first_box}
use Rattle.judge.specs.Asked.{shaped_by, tiled_by, shape_by, formed_by, first_by, form_first, rule_by, judge_by, verdict_of}

-- ---- a box that is broken, where none before it is

module _ (t : ℕ → Box → Bool) (r : Rule) (d k : ℕ) where
  abbrev f : Box → ℕ → Verdict
  f = box_first t r d k

  box_most : (x : Box) (q : ℕ) → named (f x q) ≤ q + size x
  unfolding judge_box
  box_most x q =
      sooner_most _ _ _ (unless_most _ (t k x) q (omega arith))
      (eq_any (λ v. named v ≤ q + size x) (kind_in k x.code) 0 _ _ (unless_most _ (r.leaf k x.code x.body) q (omega arith))
      (omega (arith, judge_most (placed_by t r) (each_bounded t r) d (kind_in k x.code) x.body q (q + head x) (omega arith))))

  broken : {xs : List ℕ} {base p at : ℕ} {whole v : Verdict} {b : BoxAt} {w : Walk} → Found f ((placed r).end (after xs)) xs base whole Fine at → Ran xs at b w
      → v ≡ f (box_at xs b) (base + b.at) → v ≡ Bad p → Bad p ≡ whole
  broken {xs} {base} {p} {b = b} i s q e =
      first_box t r d k (found_more f _ xs base i s (sym e ∙ q) (sooner_right Fine (Bad p) refl))
      (omega (arith, ap named (sym e ∙ q), box_most (box_at xs b) (base + b.at), ran_next s base, s.start))

pub first_broken : (n d k : ℕ) {xs : List ℕ} {base p at : ℕ} {whole v : Verdict} {b : BoxAt} {w : Walk} → Found (form_first n d k) ((first_by n).end (after xs)) xs base whole Fine at → Ran xs at b w
    → v ≡ form_first n d k (box_at xs b) (base + b.at) → v ≡ Bad p → Bad p ≡ whole
first_broken n d k = broken (λ i y. formed_by n i y.form) (shape_by n) d k

-- ---- one box: its form, and what it is

module _ (n d k : ℕ) (x : Box) (p : ℕ) where
  pub box_unformed : formed_by n k x.form ≡ false → Bad p ≡ form_first n d k x p
  unfolding unless
  box_unformed e = rw e (sooner_settled p p _ (omega arith) (judge_from (λ i y. formed_by n i y.form) (shape_by n) d k x p))

  pub box_formed : {v : Verdict} → formed_by n k x.form ≡ true → v ≡ judge_box (first_by n) (judge_in (first_by n) d) k x p → v ≡ form_first n d k x p
  unfolding unless sooner
  box_formed e q = rw e q

-- ---- the container

pub first_unshaped : (n d k : ℕ) (xs : List ℕ) (home p : ℕ) → (d ≡ 0 → ⊥) → home ≤ p → shaped_by n k xs ≡ false → Bad home ≡ judge_in (first_by n) d k xs home p
first_unshaped n = first_node (λ i y. formed_by n i y.form) (shape_by n)

pub first_begins : (n d k : ℕ) (xs : List ℕ) (home p : ℕ) → (d ≡ 0 → ⊥) → shaped_by n k xs ≡ true
    → Found (form_first n (d - 1) k) ((first_by n).end (after xs)) xs p (judge_in (first_by n) d k xs home p) Fine 0
unfolding unless
first_begins n zero k xs home p z e = absurd (z refl)
first_begins n (suc d) k xs home p z e =
    let q : suc d - 1 ≡ d = omega arith in
    rw (q, first_start (λ i y. formed_by n i y.form) (shape_by n) d k xs home p, e) (found_none (form_first n d k) ((first_by n).end (after xs)) xs p Fine)

-- ---- the end

tiled_none : (n : ℕ) → tiled_by n [] ≡ true
unfolding tiled_by is_eq
tiled_none n = eq_any (λ t. t ≡ true) _ _ _ _ refl refl

tiled_other : (n : ℕ) (xs : List ℕ) → (n ≡ 2 → ⊥) → tiled_by n xs ≡ true
unfolding tiled_by
tiled_other n xs h = sym (eq_nay _ _ _ _ _ h refl)

torn : (n : ℕ) (xs : List ℕ) → n ≡ 2 → 0 < length xs → tiled_by n xs ≡ false
unfolding tiled_by
torn n xs e h = sym (eq_yea _ _ _ _ _ e (sym (not_eq _ _ (λ z. omega arith))))

at_end : (t : Bool) (p : ℕ) → t ≡ true → sooner Fine (unless t p) ≡ Fine
unfolding sooner unless
at_end t p e = rw e

at_rest : (t : Bool) (p : ℕ) → t ≡ false → sooner Fine (unless t p) ≡ Bad p
unfolding sooner unless
at_rest t p e = rw e

module _ (n : ℕ) (f : Box → ℕ → Verdict) {xs : List ℕ} {base : ℕ} {whole : Verdict} {at : ℕ} (i : Found f ((first_by n).end (after xs)) xs base whole Fine at)
    (r : after xs ≡ after (drop at xs)) (o : Over xs at) where
  over : sooner Fine (unless (tiled_by n (after xs)) (base + at)) ≡ whole
  over = found_over f ((first_by n).end (after xs)) xs base i o

  -- nothing is left: the boxes tile the part
  pub end_tiled : length xs ≤ at → Fine ≡ whole
  end_tiled h = sym (at_end _ (base + at) (ap (tiled_by n) (r ∙ o.rest ∙ drop_of_length-le xs {i = at} h) ∙ tiled_none n)) ∙ over

  -- a rest is no matter but of rule 2
  pub end_other : (n ≡ 2 → ⊥) → Fine ≡ whole
  end_other h = sym (at_end _ (base + at) (tiled_other n (after xs) h)) ∙ over

  pub end_torn : {p : ℕ} → p ≡ at → at < length xs → n ≡ 2 → Bad (base + p) ≡ whole
  end_torn e h q =
      let l : 0 < length (after xs) = rw (r ∙ o.rest, length-drop) (omega arith) in
      ap (λ (m : ℕ). Bad (base + m)) e ∙ sym (at_rest _ (base + at) (torn n (after xs) q l)) ∙ over

-- ---- which traversal a number goes to

module _ (n : ℕ) (xs : List ℕ) {v : Verdict} where
  pub by_shape : n < 4 → v ≡ judge_in (first_by n) DEPTH FILE xs 0 0 → v ≡ verdict_of n xs
  unfolding verdict_of judge_by
  by_shape h e = e ∙ ap (λ (j : Judge). judge_in j DEPTH FILE xs 0 0) (lt_yea n 4 (first_by n) (rule_by n (boxes xs)) _ h refl)

  pub by_boxes : 4 ≤ n → v ≡ judge_in (rule_by n (boxes xs)) DEPTH FILE xs 0 0 → v ≡ verdict_of n xs
  unfolding verdict_of judge_by
  by_boxes h e = e ∙ ap (λ (j : Judge). judge_in j DEPTH FILE xs 0 0) (lt_nay n 4 (first_by n) (rule_by n (boxes xs)) _ h refl)
