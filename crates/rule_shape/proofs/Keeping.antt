-- Any edit of opaque boxes keeps rules 2 and 3 and refusal 23. Assumes nothing.
use Prim.Native.Nat.{ℕ}
use native.Mathlib.Omega.{arith}
use mathlib.Core.Path.{◌≡◌, refl, sym, ◌∙◌}
use mathlib.Core.Bool.{true}
use mathlib.Core.List.{List, [], ◌∷◌, map}
use mathlib.Core.Logic.{inl, inr}
use Rattle.wire.proofs.Tests.{eq_yea, both}
use Rattle.codes.specs.Codes.{TRAK}
use Rattle.boxes.specs.Box.{Box}
use Rattle.boxes.specs.Boxes.{boxes}
use Rattle.boxes.specs.Seek.{count}
use Rattle.boxes.specs.Containers.{FILE}
use Rattle.boxes.specs.Kin.{All2, Leaf, Formed, KinBox, Kin}
use Rattle.boxes.specs.Kin.All2.{nil, cons}
use Rattle.boxes.proofs.Kin.{kin_codes, kin_count}
use Rattle.rule.specs.Rule.{all_list, all_in}
use Rattle.rule.proofs.Keeping.{keep}
use Rattle.rule_shape.specs.Three.{needed, exactly, first, besides, shape, three_rule}
use Rattle.rule_shape.specs.TwentyThree.{barred, editable_rule}
use Rattle.rule_shape.specs.Two.{may_have, shut_in, two_rule}

-- ---- lists of boxes with the same codes

module _ (l m : List Box) (counts : (c : ℕ) → count c l ≡ count c m) where
  pub same_exactly : (n : ℕ) (cs : List ℕ) → exactly n cs l ≡ exactly n cs m
  unfolding exactly
  same_exactly n [] = refl
  same_exactly n (c ∷ cs) = rw (counts c, same_exactly n cs)

same_first : (l m : List Box) → map (λ x. x.code) l ≡ map (λ x. x.code) m → first l ≡ first m
unfolding first
same_first [] [] e = refl
same_first [] (y ∷ m) e = let z : ◌≡◌ {A = ℕ} 0 1 = cc in absurd (omega arith)
same_first (x ∷ l) [] e = let z : ◌≡◌ {A = ℕ} 0 1 = cc in absurd (omega arith)
same_first (x ∷ l) (y ∷ m) e = cc

pub same_shape : (l m : List Box) → map (λ x. x.code) l ≡ map (λ x. x.code) m → ((c : ℕ) → count c l ≡ count c m) → (k : ℕ) → shape k l ≡ shape k m
unfolding shape besides
same_shape l m e h k = rw (same_exactly l m h 1 (needed k), same_first l m e, h TRAK)

-- ---- forms: none opens

shut_file : (x : Box) → shut_in FILE x ≡ true
unfolding may_have
shut_file x = sym (eq_yea _ _ _ _ _ refl refl)

shut_kin : (k : ℕ) (x y : Box) → Formed k x.code x.form y.form → shut_in k x ≡ true → shut_in k y ≡ true
shut_kin k x y (inl e) t = rw e at t
shut_kin k x y (inr (z, c, o, p)) t = rw z (shut_file y)

all_shut : {G : Leaf} {go : ℕ → List ℕ → List ℕ → Type 0} (k : ℕ) {l m : List Box} → All2 (KinBox G go k) l m → all_list (shut_in k) true l ≡ true → all_list (shut_in k) true m ≡ true
unfolding all_list
all_shut k nil t = refl
all_shut k (cons {x} {y} {l} {m} r a) t =
    let b = both (shut_in k x) (all_list (shut_in k) true l) t in
    rw (shut_kin k x y r.form b.0) (all_shut k a b.1)

-- ---- what an edit keeps

module _ (G : Leaf) (d k : ℕ) (xs ys : List ℕ) (a : Kin G d k xs ys) where
  pub kin_2 : all_in two_rule d k xs ≡ true → all_in two_rule d k ys ≡ true
  kin_2 = keep two_rule two_rule G (λ k c b b' z g t. t) (λ d k xs ys a t. all_shut k a.0 t) (λ xs t. t) d k xs ys a

  pub kin_3 : all_in three_rule d k xs ≡ true → all_in three_rule d k ys ≡ true
  kin_3 = keep three_rule three_rule G (λ k c b b' z g t. t) (λ d k xs ys a t. sym (same_shape (boxes xs) (boxes ys) (kin_codes G d k xs ys a) (kin_count G d k xs ys a) k) ∙ t) (λ xs t. t) d k xs ys a

  pub kin_editable : all_in editable_rule d k xs ≡ true → all_in editable_rule d k ys ≡ true
  kin_editable = keep editable_rule editable_rule G (λ k c b b' z g t. t) (λ d k xs ys a t. sym (same_exactly (boxes xs) (boxes ys) (kin_count G d k xs ys a) 0 (barred k)) ∙ t) (λ xs t. t) d k xs ys a
