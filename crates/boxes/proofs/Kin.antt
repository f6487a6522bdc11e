-- Laws of `Kin`. Assumes nothing.
use Prim.Native.Nat.{ℕ, zero, suc, ◌<◌}
use mathlib.Core.Path.{◌≡◌, refl, sym, ap, subst, ◌∙◌}
use mathlib.Core.List.{List, [], map}
use mathlib.Core.Logic.{inl, inr}
use lib.ListN.{length}
use Rattle.wire.specs.Numbers.{Bytes}
use Rattle.boxes.specs.declared.walk.Form.{Form}
use Rattle.boxes.specs.Box.{Box}
use Rattle.boxes.specs.Boxes.{boxes}
use Rattle.boxes.specs.Containers.{kind_in}
use Rattle.boxes.specs.Seek.{ANY, count, nth}
use Rattle.boxes.specs.Rewrite.{Bodies, Leaves, over, edit_box, edit_in}
use Rattle.boxes.specs.Kin.{Leaf, Formed, KinBox, Kin}
use Rattle.boxes.proofs.Reading.{parts}
use Rattle.boxes.proofs.Rewriting.{boxes_over, after_over, small}
use Rattle.boxes.proofs.Pairs.{all2_refl, all2_less, all2_then, all2_codes, all2_count, all2_nth, all2_over}
use Rattle.boxes.proofs.Editing.{edit_leaf, edit_node}
use Rattle.boxes.proofs.Meaning.{meant_is}

-- ---- identity, composition, and less

pub kin_refl : (G : Leaf) → ((k c : ℕ) (b : List ℕ) → G k c b b) → (d k : ℕ) (xs : List ℕ) → Kin G d k xs xs
kin_refl G h zero k xs = refl
kin_refl G h (suc d) k xs =
    (all2_refl (λ x. record { form = inl refl; code = refl; leaf = λ e. h k x.code x.body; node = λ e. kin_refl G h d (kind_in k x.code) x.body }) (boxes xs), refl)

-- once closed, a `moov` stays so
formed_then : {k c : ℕ} {f g h : Form} → Formed k c f g → Formed k c g h → Formed k c f h
formed_then {k} {c} {f} {h = h} (inl e) q = rw e q
formed_then {k} {c} {f} {h = h} (inr (a, b, o, p)) (inl e) = inr (a, b, o, sym e ∙ p)
formed_then {k} {c} {f} {h = h} (inr (a, b, o, p)) (inr (x, y, z, w)) = inr (a, b, o, w)

-- first G, and then H
abbrev pub Then : Leaf → Leaf → Leaf
Then G H k c b b'' = (b' : List ℕ) × G k c b b' × H k c b' b''

module _ (G H : Leaf) where
  pub kin_then : (d k : ℕ) (xs ys zs : List ℕ) → Kin G d k xs ys → Kin H d k ys zs → Kin (Then G H) d k xs zs
  kin_then zero k xs ys zs p q = p ∙ q
  kin_then (suc d) k xs ys zs (a, e) (b, f) = (
    all2_then (λ x y z r s. record {
      form = formed_then r.form (rw (← r.code) at s.form);
      code = r.code ∙ s.code;
      leaf = λ n. (y.body, r.leaf n, rw (← r.code) at (s.leaf (rw (← r.code) n)));
      node = λ n. kin_then d (kind_in k x.code) x.body y.body z.body (r.node n) (rw (← r.code) at (s.node (rw (← r.code) n)));
    }) a b,
    e ∙ f,
  )

module _ (G H : Leaf) (h : (k c : ℕ) (b b' : List ℕ) → G k c b b' → H k c b b') where
  -- where G says at least what H does
  pub kin_less : (d k : ℕ) (xs ys : List ℕ) → Kin G d k xs ys → Kin H d k xs ys
  kin_less zero k xs ys e = e
  kin_less (suc d) k xs ys (a, e) = (
    all2_less (λ x y r. record {
      form = r.form;
      code = r.code;
      leaf = λ z. h k x.code x.body y.body (r.leaf z);
      node = λ z. kin_less d (kind_in k x.code) x.body y.body (r.node z);
    }) a,
    e,
  )

-- ---- what a container sees of the boxes in it

module _ (G : Leaf) (d k : ℕ) (xs ys : List ℕ) (a : Kin G (suc d) k xs ys) where
  pub kin_codes : map (λ x. x.code) (boxes xs) ≡ map (λ x. x.code) (boxes ys)
  kin_codes = all2_codes (λ x y r. r.code) a.0

  pub kin_count : (c : ℕ) → count c (boxes xs) ≡ count c (boxes ys)
  kin_count c = all2_count (λ x y r. r.code) c a.0

  module _ (c : ℕ) (z : c ≡ ANY → ⊥) (P : List ℕ → List ℕ → Type 0) (empty : P [] []) where
    -- an opaque box of a code
    pub kin_find : kind_in k c ≡ 0 → ((b b' : List ℕ) → G k c b b' → P b b') → (n : ℕ) → P (nth c n (boxes xs)) (nth c n (boxes ys))
    kin_find o h n = all2_nth c P (λ x y r. r.code) empty (λ x y r e. let q = meant_is c x.code z e in h x.body y.body (subst (λ (i : ℕ). G k i x.body y.body) q (r.leaf (ap (kind_in k) q ∙ o)))) n a.0

    -- a container of a code
    pub kin_child : (kind_in k c ≡ 0 → ⊥) → ((b b' : List ℕ) → Kin G d (kind_in k c) b b' → P b b') → (n : ℕ) → P (nth c n (boxes xs)) (nth c n (boxes ys))
    kin_child o h n = all2_nth c P (λ x y r. r.code) empty (λ x y r e. let q = meant_is c x.code z e in h x.body y.body (subst (λ (i : ℕ). Kin G d (kind_in k i) x.body y.body) q (r.node (λ w. o (ap (kind_in k) (sym q) ∙ w))))) n a.0

-- ---- an edit of opaque boxes is kin to what it was made of

module _ (g : Leaves) where
  -- an opaque box by g, of a body of bytes
  abbrev pub Made : Leaf
  Made k c b b' = (b' ≡ g k c b) × Bytes b

  box_edit : (d k : ℕ) → ((j : ℕ) (ys : List ℕ) → Bytes ys → length (edit_in g d j ys) < 4294967296 → Kin Made d j ys (edit_in g d j ys))
      → (x : Box) → Bytes x.body → length (edit_box g (edit_in g d) k x.code x.body) < 4294967296 → KinBox Made (λ j us vs. Kin Made d j us vs) k x (over (edit_box g (edit_in g d) k) x)
  box_edit d k ih x w s =
      record {
        form = inl refl;
        code = refl;
        leaf = λ e. (sym (edit_leaf g (edit_in g d) k x.code x.body refl e refl), w);
        node = λ e.
            let q = edit_node g (edit_in g d) k x.code x.body refl e refl in
            subst (Kin Made d (kind_in k x.code) x.body) q (ih (kind_in k x.code) x.body w (rw q s));
      }

  pub kin_edit : (d k : ℕ) (xs : List ℕ) → Bytes xs → length (edit_in g d k xs) < 4294967296 → Kin Made d k xs (edit_in g d k xs)
  unfolding edit_in
  kin_edit zero k xs h s = refl
  kin_edit (suc d) k xs h s =
      let f : Bodies = edit_box g (edit_in g d) k in
      (rw (boxes_over f xs h s) (all2_over f (KinBox Made (λ j us vs. Kin Made d j us vs) k) (box_edit d k (λ j ys w l. kin_edit d j ys w l)) (parts xs h).filled (small f xs h s)), sym (after_over f xs h s))
