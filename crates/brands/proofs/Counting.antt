-- Laws of the counts over tracks. Assumes nothing.
use Prim.Native.Nat.{ℕ, ◌+◌, ◌≤◌, ◌<◌}
use native.Mathlib.Omega.{arith}
use mathlib.Core.Path.{◌≡◌, refl, sym, ap, ◌∙◌}
use mathlib.Core.Bool.{Bool, true, false}
use mathlib.Core.List.{List}
use Rattle.wire.specs.Clauses.{is_eq, one_if}
use Rattle.wire.proofs.Clauses.{told}
use Rattle.std.specs.Int.{from_bool}
use lib.Dec.{eqb}
use Rattle.wire.proofs.Sums.{sum_none, sum_more, all_none, all_more, all_fails}
use Rattle.movie.specs.Movie.{track, handler}
use Rattle.brands.specs.Brands.{handled_to, single, single_to, no_avc1, no_avc1_to}

module _ (h : ℕ) (xs : List ℕ) where
  pub handled_none : 0 ≡ handled_to h xs 0
  unfolding handled_to
  handled_none = sym (sum_none (λ t. one_if (is_eq (handler (track xs t)) h)))

  pub handled_more : (t : ℕ) {b : List ℕ} {k r sum : ℕ} → sum ≡ handled_to h xs t → b ≡ track xs t → k ≡ handler b → r ≡ from_bool (eqb k h) → sum + r ≡ handled_to h xs (t + 1)
  unfolding handled_to is_eq
  handled_more t p f q e = rw (told e refl, q, f, p) (sym (sum_more (λ t. one_if (is_eq (handler (track xs t)) h)) t))

-- a bool counts one at most
pub bool_most : (b : Bool) → from_bool b ≤ 1
bool_most true = omega arith
bool_most false = omega arith

-- ---- all tracks

-- what is asked of a payload is asked of the track that it is of
found : (p : List ℕ → Bool) {b d : List ℕ} {r s : Bool} → r ≡ p b → b ≡ d → r ≡ s → p d ≡ s
found p e f z = ap p (sym f) ∙ sym e ∙ z

module _ (xs : List ℕ) where
  pub single_none : single_to xs 0 ≡ true
  unfolding single_to
  single_none = all_none (λ t. single (track xs t))

  pub plain_none : no_avc1_to xs 0 ≡ true
  unfolding no_avc1_to
  plain_none = all_none (λ t. no_avc1 (track xs t))

  module _ (t : ℕ) {b : List ℕ} {r : Bool} (f : b ≡ track xs t) where
    pub single_more : r ≡ single b → r ≡ true → single_to xs t ≡ true → single_to xs (t + 1) ≡ true
    unfolding single_to
    single_more e z h = all_more (λ t. single (track xs t)) t h (found single e f z)

    pub single_fails : (n : ℕ) → t < n → r ≡ single b → r ≡ false → false ≡ single_to xs n
    unfolding single_to
    single_fails n h e z = sym (all_fails (λ t. single (track xs t)) n t h (found single e f z))

    pub plain_more : r ≡ no_avc1 b → r ≡ true → no_avc1_to xs t ≡ true → no_avc1_to xs (t + 1) ≡ true
    unfolding no_avc1_to
    plain_more e z h = all_more (λ t. no_avc1 (track xs t)) t h (found no_avc1 e f z)

    pub plain_fails : (n : ℕ) → t < n → r ≡ no_avc1 b → r ≡ false → false ≡ no_avc1_to xs n
    unfolding no_avc1_to
    plain_fails n h e z = sym (all_fails (λ t. no_avc1 (track xs t)) n t h (found no_avc1 e f z))
