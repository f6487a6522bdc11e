-- A list of boxes of which the n-th that a code means has its body by f. Assumes nothing.
use Prim.Native.Nat.{ℕ, zero, suc, ◌≤◌, ◌<◌}
use native.Mathlib.Omega.{arith}
use mathlib.Core.Path.{◌≡◌, refl, ap, ◌∙◌}
use mathlib.Core.List.{List, ◌∷◌, ◌++◌}
use Rattle.boxes.specs.Box.{Box, remade}
use Rattle.boxes.specs.Seek.{meant, count, nth}
use Rattle.boxes.specs.Way.{nth_by}
use Rattle.boxes.proofs.Meaning.{nth_hit, nth_next, nth_miss, by_hit, by_next, by_miss}
use Rattle.boxes.proofs.Numbered.{by_number}

module _ (c : ℕ) (f : List ℕ → List ℕ) where
  abbrev by : Box → Box
  by x = remade x (f x.body)

  -- ---- which box it is

  pub nth_by_lem : (n : ℕ) (p : List Box) (x : Box) (q : List Box) → count c p ≡ n → meant c x.code ≡ 1 → nth_by c n f (p ++ x ∷ q) ≡ p ++ remade x (f x.body) ∷ q
  unfolding count
  nth_by_lem n p x q k h =
      by_number c (λ n p. count c p ≡ n → nth_by c n f (p ++ x ∷ q) ≡ p ++ by x ∷ q)
      (λ n k. rw (← k) (by_hit c x q h f))
      (λ n y p e ih k. by_miss c y (p ++ x ∷ q) e f n ∙ ap (λ (l : List Box). y ∷ l) (ih (omega arith)))
      (λ y p e k. absurd (omega arith))
      (λ n y p e ih k. by_next c y (p ++ x ∷ q) e f n ∙ ap (λ (l : List Box). y ∷ l) (ih (omega arith))) n p k

  pub nth_by_none : (n : ℕ) (l : List Box) → count c l ≤ n → nth_by c n f l ≡ l
  unfolding count nth_by
  nth_by_none =
      by_number c (λ n l. count c l ≤ n → nth_by c n f l ≡ l)
      (λ n k. refl)
      (λ n x l e ih k. by_miss c x l e f n ∙ ap (λ (l : List Box). x ∷ l) (ih (omega arith)))
      (λ x l e k. absurd (omega arith))
      (λ n x l e ih k. by_next c x l e f n ∙ ap (λ (l : List Box). x ∷ l) (ih (omega arith)))

  -- ---- what is found: its body by f, and every other as it was

  pub list_here : (n : ℕ) (l : List Box) → n < count c l → nth c n (nth_by c n f l) ≡ f (nth c n l)
  unfolding count
  list_here =
      by_number c (λ n l. n < count c l → nth c n (nth_by c n f l) ≡ f (nth c n l))
      (λ n k. absurd (omega arith))
      (λ n x l e ih k. rw (by_miss c x l e f n, nth_miss c x (nth_by c n f l) e n, nth_miss c x l e n) (ih (omega arith)))
      (λ x l e k. rw (by_hit c x l e f, nth_hit c (by x) l e, nth_hit c x l e))
      (λ n x l e ih k. rw (by_next c x l e f n, nth_next c x (nth_by c n f l) e n, nth_next c x l e n) (ih (omega arith)))

  pub list_other : (n u : ℕ) → (u ≡ n → ⊥) → (l : List Box) → nth c u (nth_by c n f l) ≡ nth c u l
  unfolding nth_by
  list_other n u z l =
      by_number c (λ n l. (u : ℕ) → (u ≡ n → ⊥) → nth c u (nth_by c n f l) ≡ nth c u l)
      (λ n u z. refl)
      (λ n x l e ih u z. rw (by_miss c x l e f n, nth_miss c x (nth_by c n f l) e u, nth_miss c x l e u) (ih u z))
      (λ x l e u z. rw (by_hit c x l e f) (past x l e u z))
      (λ n x l e ih u z. rw (by_next c x l e f n) (next n x l e ih u z)) n l u z
    where
      past : (x : Box) (l : List Box) → meant c x.code ≡ 1 → (u : ℕ) → (u ≡ 0 → ⊥) → nth c u (by x ∷ l) ≡ nth c u (x ∷ l)
      past x l e zero z = absurd (z refl)
      past x l e (suc u) z = rw (nth_next c (by x) l e u, nth_next c x l e u)

      next : (n : ℕ) (x : Box) (l : List Box) → meant c x.code ≡ 1 → ((u : ℕ) → (u ≡ n → ⊥) → nth c u (nth_by c n f l) ≡ nth c u l) → (u : ℕ) → (u ≡ suc n → ⊥) → nth c u (x ∷ nth_by c n f l) ≡ nth c u (x ∷ l)
      next n x l e ih zero z = rw (nth_hit c x (nth_by c n f l) e, nth_hit c x l e)
      next n x l e ih (suc u) z = rw (nth_next c x (nth_by c n f l) e u, nth_next c x l e u) (ih u (λ q. z (ap suc q)))
