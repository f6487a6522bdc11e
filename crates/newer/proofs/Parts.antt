-- The part of a file that is handed back, and the number beside it. Assumes nothing.
use Prim.Native.Nat.{ℕ}
use mathlib.Core.Path.{◌≡◌, refl, sym, ap, ◌∙◌}
use mathlib.Core.List.{List, [], ◌∷◌}
use lib.ListN.{take, drop}
use Rattle.wire.proofs.Tests.{eq_yea, eq_nay}
use Rattle.clocks.specs.Clocks.{order_number}
use Rattle.newer.specs.declared.Part.{Part}
use Rattle.newer.specs.Newer.{told_by, part_of, Outcome, Found, RefusedIn}

module _ (xs ys : List ℕ) (w : Outcome) {o : Outcome} (e : o ≡ w) where
  module _ (f : Part) (g : o ≡ Found f) {a : List ℕ} {n : ℕ} (h : n ≡ order_number f.order) (m : a ≡ 0 ∷ f.file ∷ n ∷ []) where
    told_is : a ≡ told_by w
    told_is = m ∙ rw h (ap told_by (sym g ∙ e))

    pub part_first : {r : List ℕ} → f.file ≡ 1 → r ≡ take f.span (drop f.place xs) → (r ≡ part_of xs ys w) × (a ≡ told_by w)
    unfolding part_of
    part_first h q = (q ∙ ap (λ (zs : List ℕ). take f.span (drop f.place zs)) (eq_yea f.file 1 xs ys xs h refl) ∙ ap (part_of xs ys) (sym g ∙ e), told_is)

    pub part_second : {r : List ℕ} → (f.file ≡ 1 → ⊥) → r ≡ take f.span (drop f.place ys) → (r ≡ part_of xs ys w) × (a ≡ told_by w)
    unfolding part_of
    part_second h q = (q ∙ ap (λ (zs : List ℕ). take f.span (drop f.place zs)) (eq_nay f.file 1 xs ys ys h refl) ∙ ap (part_of xs ys) (sym g ∙ e), told_is)

  pub part_none : {file n p : ℕ} {a : List ℕ} → o ≡ RefusedIn file n p → a ≡ n ∷ file ∷ p ∷ [] → ([] ≡ part_of xs ys w) × (a ≡ told_by w)
  unfolding part_of
  part_none g m = (ap (part_of xs ys) (sym g ∙ e), m ∙ ap told_by (sym g ∙ e))
