-- A rewriting of one opaque box, by the way to it: its body is rewritten, and all other opaque boxes are as they were. Assumes nothing.
use Prim.Native.Nat.{ℕ, suc, ◌≤◌, ◌<◌}
use native.Mathlib.Omega.{arith}
use mathlib.Core.Path.{◌≡◌, refl, sym, ap, subst, ◌∙◌}
use mathlib.Core.List.{List, [], ◌∷◌}
use mathlib.Core.Logic.{◌⊎◌, inl, inr}
use lib.ListN.{length, take, drop}
use Rattle.wire.specs.Numbers.{Bytes}
use Rattle.wire.proofs.Numbers.{bytes_append, bytes_take, bytes_drop}
use Rattle.boxes.specs.declared.way.Turn.{Turn}
use Rattle.boxes.specs.Box.{Box}
use Rattle.boxes.specs.Boxes.{boxes}
use Rattle.boxes.specs.Containers.{kind_in}
use Rattle.boxes.specs.Seek.{ANY, nth}
use Rattle.boxes.specs.Way.{over_nth, over_turn, edit_way}
use Rattle.boxes.specs.Kin.{KinBox, Kin}
use Rattle.boxes.proofs.Kin.{kin_refl}
use Rattle.boxes.proofs.Meaning.{meant_is}
use Rattle.boxes.proofs.Numbered.{nth_there, found_short}
use Rattle.boxes.proofs.OneOfPart.{over_level, bytes_nth, nth_here}
use Rattle.boxes.proofs.Lying.{bytes_lies, lies_found}

-- ---- a way down containers

-- from a container of kind k, as deep as d, to an opaque box of code c' in a container of kind k'
pub data Down : ℕ → ℕ → List Turn → ℕ → ℕ → Type 0 where
  last : (d k c n : ℕ) → (c ≡ ANY → ⊥) → kind_in k c ≡ 0 → Down (suc d) k (record { skip = 0; code = c; nth = n } ∷ []) k c
  into : (d k c n : ℕ) {w : List Turn} {k' c' : ℕ} → (c ≡ ANY → ⊥) → (kind_in k c ≡ 0 → ⊥) → Down d (kind_in k c) w k' c' → Down (suc d) k (record { skip = 0; code = c; nth = n } ∷ w) k' c'

-- the body at the end of a way
unfoldable pub end_of : List Turn → List ℕ → List ℕ
end_of [] xs = xs
end_of (t ∷ w) xs = end_of w (nth t.code t.nth (boxes (drop t.skip xs)))

-- an opaque box is as it was, or it is the one of code c' in a container of kind k' whose body was b₀ and is b₁
abbrev pub Once : (k' c' : ℕ) (b₀ b₁ : List ℕ) → ℕ → ℕ → List ℕ → List ℕ → Type 0
Once k' c' b₀ b₁ k c b b' = (b ≡ b') ⊎ ((k ≡ k') × (c ≡ c') × (b ≡ b₀) × (b' ≡ b₁))

-- ---- it is kin

module _ (h : List ℕ → List ℕ) (hb : (b : List ℕ) → Bytes b → Bytes (h b)) where
  pub way_bytes : (w : List Turn) (xs : List ℕ) → Bytes xs → Bytes (edit_way w h xs)
  unfolding edit_way over_turn
  way_bytes [] xs v = hb xs v
  way_bytes (t ∷ w) xs v =
      bytes_append (take t.skip xs) (over_nth t.code t.nth (edit_way w h) (drop t.skip xs)) (bytes_take t.skip xs v)
      (bytes_nth t.code t.nth (edit_way w h) (drop t.skip xs) (bytes_drop t.skip xs v) (λ b u. way_bytes w b u))

  same_box : (k' c' : ℕ) (b₀ b₁ : List ℕ) (d k : ℕ) (x : Box) → KinBox (Once k' c' b₀ b₁) (λ j us vs. Kin (Once k' c' b₀ b₁) d j us vs) k x x
  same_box k' c' b₀ b₁ d k x = record { form = inl refl; code = refl; leaf = λ e. inl refl; node = λ e. kin_refl (Once k' c' b₀ b₁) (λ j c b. inl refl) d (kind_in k x.code) x.body }

  pub kin_way : {d k : ℕ} {w : List Turn} {k' c' : ℕ} → Down d k w k' c' → (xs : List ℕ) → Bytes xs → length (edit_way w h xs) < 4294967296 → Kin (Once k' c' (end_of w xs) (h (end_of w xs))) d k xs (edit_way w h xs)
  unfolding edit_way over_turn end_of
  kin_way (last d k c n z e) xs v s =
      over_level c n h xs v s _ (same_box k c _ _ d k)
      (λ x q f u m.
      let i = meant_is c x.code z q in
      record { form = inl refl; code = refl; leaf = λ o. inr (refl, i, f, ap h f); node = λ o. absurd (o (ap (kind_in k) i ∙ e)) })
  kin_way (into d k c n {w} {k'} {c'} z e a) xs v s =
      over_level c n (edit_way w h) xs v s _ (same_box k' c' _ _ d k)
      (λ x q f u m.
      let i = meant_is c x.code z q in
      record {
        form = inl refl;
        code = refl;
        leaf = λ o. absurd (e (ap (kind_in k) (sym i) ∙ o));
        node = λ o.
            subst (λ (j : ℕ). Kin (Once k' c' (end_of w (nth c n (boxes xs))) (h (end_of w (nth c n (boxes xs))))) d (kind_in k j) x.body (edit_way w h x.body)) (sym i)
            (subst (λ (b : List ℕ). Kin (Once k' c' (end_of w b) (h (end_of w b))) d (kind_in k c) x.body (edit_way w h x.body)) f (kin_way a x.body u m));
      })

-- ---- the body at its end

-- nothing stands in nothing
end_nothing : {d k : ℕ} {w : List Turn} {k' c' : ℕ} → Down d k w k' c' → end_of w [] ≡ []
unfolding end_of boxes nth
end_nothing (last d k c n z e) = refl
end_nothing (into d k c n z e a) = end_nothing a

module _ (h : List ℕ → List ℕ) where
  -- a way to a body that isn't empty leads through boxes that are there, and the body is rewritten
  pub end_by : {d k : ℕ} {w : List Turn} {k' c' : ℕ} → Down d k w k' c' → (xs : List ℕ) → Bytes xs → length (edit_way w h xs) < 4294967296 → 1 ≤ length (end_of w xs) → end_of w (edit_way w h xs) ≡ h (end_of w xs)
  unfolding edit_way over_turn end_of
  end_by (last d k c n z e) xs v s l = nth_here c n h xs v s (nth_there c n (boxes xs) (λ q. let m = ap length q in omega arith))
  end_by (into d k c n {w} z e a) xs v s l =
      let p = nth_there c n (boxes xs) (λ q. let m = ap length (ap (end_of w) q ∙ end_nothing a) in omega arith) in
      let q = nth_here c n (edit_way w h) xs v s p in
      ap (end_of w) q ∙ end_by a (nth c n (boxes xs)) (bytes_lies (lies_found c n xs v) v) (omega (arith, found_short c n (over_nth c n (edit_way w h) xs) (sym q))) l
