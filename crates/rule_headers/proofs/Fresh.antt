-- Laws of track IDs. Assumes nothing.
use Prim.Native.Nat.{ℕ, zero, suc, ◌+◌, ◌<◌}
use native.Mathlib.Numerals.{add-one}
use mathlib.Core.Path.{◌≡◌, refl, ap, ◌∙◌}
use mathlib.Core.Bool.{true, false, not}
use mathlib.Core.List.{List}
use Rattle.wire.specs.Numbers.{word}
use Rattle.wire.specs.Clauses.{is_eq}
use Rattle.wire.specs.Sums.{all_to}
use Rattle.codes.specs.Codes.{TRAK, TKHD}
use Rattle.wire.proofs.Clauses.{is_eq_lem, not_eq}
use Rattle.wire.proofs.Sums.{all_none, all_more, all_fails}
use Rattle.boxes.specs.Box.{Box}
use Rattle.boxes.specs.Boxes.{boxes}
use Rattle.boxes.specs.Seek.{count, nth, find, place_in, start_in}
use Rattle.rule.specs.Verdict.{sooner, unless, is_fine, Verdict, Fine}
use Rattle.rule.proofs.Places.{sooner_fine, unless_fine}
use Rattle.rule_headers.specs.Identities.{identity, fresh, tkhd_place, fresh_to, different}

module _ (l : List Box) where
  pub identity_is : (i : ℕ) {trak tkhd : List ℕ} {r : ℕ} → trak ≡ nth TRAK i l → tkhd ≡ find TKHD (boxes trak) → r ≡ word 4 tkhd 12 → r ≡ identity l i
  unfolding identity
  identity_is i e f q = q ∙ rw (f, e)

  pub place_is : (p i : ℕ) {trak : List ℕ} {s t : ℕ} → trak ≡ nth TRAK i l → s ≡ start_in TRAK i l → t ≡ place_in TKHD 0 (boxes trak) → p + s + t ≡ tkhd_place l p i
  unfolding tkhd_place
  place_is p i e f q = rw (f, q, e)

  -- ---- the tracks before one

  pub fresh_none : (i : ℕ) → fresh l i 0 ≡ true
  unfolding fresh
  fresh_none i = all_none (λ j. not (is_eq (identity l j) (identity l i)))

  pub fresh_more : (i j : ℕ) → fresh l i j ≡ true → (identity l j ≡ identity l i → ⊥) → fresh l i (j + 1) ≡ true
  unfolding fresh
  fresh_more i j h n = all_more (λ j. not (is_eq (identity l j) (identity l i))) j h (ap not (not_eq (identity l j) (identity l i) n))

  pub fresh_again : (i j n : ℕ) → j < n → identity l j ≡ identity l i → fresh l i n ≡ false
  unfolding fresh
  fresh_again i j n h e = all_fails (λ j. not (is_eq (identity l j) (identity l i))) n j h (ap not (is_eq_lem (identity l j) (identity l i) e))

  -- ---- all tracks

  pub fresh_start : (p : ℕ) → Fine ≡ fresh_to l p 0
  unfolding fresh_to
  fresh_start p = refl

  pub fresh_next : (p n : ℕ) {u v : Verdict} → u ≡ fresh_to l p n → v ≡ sooner u (unless (fresh l n n) (tkhd_place l p n)) → v ≡ fresh_to l p (n + 1)
  unfolding fresh_to
  fresh_next p n e q = rw add-one (q ∙ ap (λ (u : Verdict). sooner u (unless (fresh l n n) (tkhd_place l p n))) e)

  fresh_fine : (p n : ℕ) → is_fine (fresh_to l p n) ≡ all_to (λ i. fresh l i i) n
  unfolding fresh_to all_to
  fresh_fine p zero = refl
  fresh_fine p (suc n) = sooner_fine (fresh_to l p n) (unless (fresh l n n) (tkhd_place l p n)) ∙ rw (fresh_fine p n, unless_fine (fresh l n n) (tkhd_place l p n))

  pub different_fine : (p : ℕ) → is_fine (fresh_to l p (count TRAK l)) ≡ different l
  unfolding different
  different_fine p = fresh_fine p (count TRAK l)
