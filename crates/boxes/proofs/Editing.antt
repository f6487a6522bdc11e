-- Laws of rewriting opaque boxes at every level. Assumes nothing.
use Prim.Native.Nat.{ℕ, zero, suc, ◌-◌, ◌<◌}
use native.Mathlib.Omega.{arith}
use mathlib.Core.Path.{◌≡◌, refl, sym, ◌∙◌}
use mathlib.Core.Bool.{Bool, true, false}
use mathlib.Core.List.{List}
use lib.Dec.{eqb}
use lib.ListN.{length}
use Rattle.wire.specs.Tests.{pick, if_eq}
use Rattle.wire.specs.Numbers.{Bytes}
use Rattle.wire.proofs.Tests.{eq_yea, eq_nay}
use Rattle.boxes.specs.Containers.{kind_in}
use Rattle.boxes.specs.Rewrite.{Bodies, Leaves, over_boxes, edit_box, edit_in}
use Rattle.boxes.proofs.Rewriting.{length_over, over_same, over_over, bytes_over}

-- ---- one box, and what it holds

module _ (g : Leaves) (go : Bodies) (k c : ℕ) (b : List ℕ) where
  pub edit_leaf : {j : ℕ} {ys : List ℕ} → j ≡ kind_in k c → j ≡ 0 → ys ≡ g k c b → ys ≡ edit_box g go k c b
  unfolding edit_box
  edit_leaf e z q = eq_yea _ _ _ _ _ (sym e ∙ z) q

  pub edit_node : {j : ℕ} {ys : List ℕ} → j ≡ kind_in k c → (j ≡ 0 → ⊥) → ys ≡ go j b → ys ≡ edit_box g go k c b
  unfolding edit_box
  edit_node e z q = eq_nay _ _ _ _ _ (λ y. z (e ∙ y)) (rw (← e) q)

  -- what holds of both ways holds of the box
  box_by : (P : List ℕ → Type 0) → P (g k c b) → P (go (kind_in k c) b) → P (edit_box g go k c b)
  unfolding edit_box if_eq
  box_by P p q = by (eqb (kind_in k c) 0)
    where
      by : (t : Bool) → P (pick t (g k c b) (go (kind_in k c) b))
      by true = p
      by false = q

module _ (g : Leaves) where
  pub edit_shallow : (d k : ℕ) (xs : List ℕ) → d ≡ 0 → xs ≡ edit_in g d k xs
  unfolding edit_in
  edit_shallow zero k xs e = refl
  edit_shallow (suc d) k xs e = absurd (omega arith)

  pub edit_deep : (d k : ℕ) (xs : List ℕ) → (d ≡ 0 → ⊥) → over_boxes (edit_box g (edit_in g (d - 1)) k) xs ≡ edit_in g d k xs
  unfolding edit_in
  edit_deep zero k xs e = absurd (e refl)
  edit_deep (suc d) k xs e = let p : suc d - 1 ≡ d = omega arith in rw p

  -- ---- lengths, bytes, and nothing changed: as of the leaves, so of all

  module _ (keeps : (k c : ℕ) (b : List ℕ) → length (g k c b) ≡ length b) where
    pub edit_length : (d k : ℕ) (xs : List ℕ) → length (edit_in g d k xs) ≡ length xs
    unfolding edit_in
    edit_length zero k xs = refl
    edit_length (suc d) k xs = length_over (edit_box g (edit_in g d) k) (λ c b. box_by g (edit_in g d) k c b (λ ys. length ys ≡ length b) (keeps k c b) (edit_length d (kind_in k c) b)) xs

    pub box_length : (d k c : ℕ) (b : List ℕ) → length (edit_box g (edit_in g d) k c b) ≡ length b
    box_length d k c b = box_by g (edit_in g d) k c b (λ ys. length ys ≡ length b) (keeps k c b) (edit_length d (kind_in k c) b)

  module _ (bs : (k c : ℕ) (b : List ℕ) → Bytes b → Bytes (g k c b)) where
    pub edit_bytes : (d k : ℕ) (xs : List ℕ) → Bytes xs → Bytes (edit_in g d k xs)
    unfolding edit_in
    edit_bytes zero k xs h = h
    edit_bytes (suc d) k xs h = bytes_over (edit_box g (edit_in g d) k) (λ c b w. box_by g (edit_in g d) k c b Bytes (bs k c b w) (edit_bytes d (kind_in k c) b w)) xs h

  module _ (stays : (k c : ℕ) (b : List ℕ) → Bytes b → g k c b ≡ b) where
    pub edit_same : (d k : ℕ) (xs : List ℕ) → Bytes xs → edit_in g d k xs ≡ xs
    unfolding edit_in
    edit_same zero k xs h = refl
    edit_same (suc d) k xs h = over_same (edit_box g (edit_in g d) k) (λ c b w. box_by g (edit_in g d) k c b (λ ys. ys ≡ b) (stays k c b w) (edit_same d (kind_in k c) b w)) xs h

-- ---- two edits in a row are one

module _ (f g : Leaves) where
  abbrev both : Leaves
  both k c b = f k c (g k c b)

  box_box : (d k c : ℕ) (b : List ℕ) → (length (edit_in g d (kind_in k c) b) < 4294967296 → edit_in f d (kind_in k c) (edit_in g d (kind_in k c) b) ≡ edit_in both d (kind_in k c) b)
      → length (edit_box g (edit_in g d) k c b) < 4294967296 → edit_box f (edit_in f d) k c (edit_box g (edit_in g d) k c b) ≡ edit_box both (edit_in both d) k c b
  unfolding edit_box if_eq
  box_box d k c b ih s = by (eqb (kind_in k c) 0) s
    where
      by : (t : Bool) → length (pick t (g k c b) (edit_in g d (kind_in k c) b)) < 4294967296
          → pick t (f k c (pick t (g k c b) (edit_in g d (kind_in k c) b))) (edit_in f d (kind_in k c) (pick t (g k c b) (edit_in g d (kind_in k c) b))) ≡ pick t (both k c b) (edit_in both d (kind_in k c) b)
      by true s = refl
      by false s = ih s

  pub edit_edit : (d k : ℕ) (xs : List ℕ) → Bytes xs → length (edit_in g d k xs) < 4294967296 → edit_in f d k (edit_in g d k xs) ≡ edit_in (λ k c b. f k c (g k c b)) d k xs
  unfolding edit_in
  edit_edit zero k xs h s = refl
  edit_edit (suc d) k xs h s =
      over_over (edit_box f (edit_in f d) k) (edit_box g (edit_in g d) k) (edit_box both (edit_in both d) k) (λ c b w l. box_box d k c b (edit_edit d (kind_in k c) b w) l) xs h s
