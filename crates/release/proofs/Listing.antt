-- A brand is listed where one of the list is it, and isn't where none is. Assumes nothing.
use Prim.Native.Nat.{ℕ, ◌+◌, ◌-◌, ◌*◌, ◌/◌, ◌<◌}
use native.Mathlib.Omega.{arith}
use mathlib.Core.Path.{◌≡◌, sym, ap, ◌∙◌}
use mathlib.Core.Bool.{true, false}
use mathlib.Core.List.{List}
use lib.ListN.{length}
use Rattle.wire.specs.Numbers.{word}
use Rattle.wire.specs.Clauses.{is_eq, one_if}
use Rattle.wire.proofs.Clauses.{is_eq_lem, not_eq, is_lt_lem, not_lt, yea, nay}
use Rattle.wire.proofs.Sums.{sum_none, sum_more, sum_mono}
use Rattle.release.specs.Compatible.{times_to, brand_listed}

module _ (c : ℕ) (ftyp : List ℕ) where
  pub times_none : times_to c ftyp 0 ≡ 0
  unfolding times_to
  times_none = sum_none (λ i. one_if (is_eq (word 4 ftyp (8 + 4 * i)) c))

  more : (i : ℕ) → times_to c ftyp (i + 1) ≡ times_to c ftyp i + one_if (is_eq (word 4 ftyp (8 + 4 * i)) c)
  unfolding times_to
  more i = sum_more (λ i. one_if (is_eq (word 4 ftyp (8 + 4 * i)) c)) i

  -- brand i is another
  pub times_other : (i : ℕ) {w : ℕ} → w ≡ word 4 ftyp (8 + 4 * i) → (w ≡ c → ⊥) → times_to c ftyp i ≡ 0 → times_to c ftyp (i + 1) ≡ 0
  times_other i e n z =
      let none : 0 ≡ one_if (is_eq (word 4 ftyp (8 + 4 * i)) c) = nay _ (sym (not_eq _ _ (λ q. n (e ∙ q)))) in
      omega (arith, more i)

  -- it is c
  pub listed_here : (i : ℕ) {w : ℕ} → i < (length ftyp - 8) / 4 → w ≡ word 4 ftyp (8 + 4 * i) → w ≡ c → true ≡ brand_listed c ftyp
  unfolding brand_listed times_to
  listed_here i l e q =
      let one : 1 ≡ one_if (is_eq (word 4 ftyp (8 + 4 * i)) c) = yea _ (sym (is_eq_lem _ _ (sym e ∙ q))) in
      sym (is_lt_lem _ _ (omega (arith, more i, sum_mono (λ j. one_if (is_eq (word 4 ftyp (8 + 4 * j)) c)) (i + 1) ((length ftyp - 8) / 4) (omega arith))))

  -- all of them are others
  pub listed_none : {n : ℕ} → n ≡ (length ftyp - 8) / 4 → times_to c ftyp n ≡ 0 → false ≡ brand_listed c ftyp
  unfolding brand_listed
  listed_none e z = sym (not_lt _ _ (omega (arith, sym (ap (times_to c ftyp) e) ∙ z)))

  -- too short for a list
  pub listed_short : length ftyp < 8 → false ≡ brand_listed c ftyp
  listed_short h = listed_none (omega arith) times_none
