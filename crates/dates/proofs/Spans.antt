-- Of spans one after another there is one in which a day falls, and no other. Assumes nothing.
use Prim.Native.Nat.{ℕ, zero, suc, ◌+◌, ◌-◌, ◌≤◌, ◌<◌}
use native.Mathlib.Omega.{arith}
use mathlib.Core.Path.{◌≡◌, refl, sym, ap}
use Rattle.wire.specs.Sums.{sum_to}
use Rattle.wire.proofs.Tests.{le_yea, le_nay, lt_or}
use Rattle.wire.proofs.Sums.{sum_more, sum_mono}
use Rattle.dates.specs.declared.calendar.Fall.{Fall}
use Rattle.dates.specs.Dates.{FallsIn, spans_over, fall_of}

alike : {a b c d : ℕ} → a ≡ c → b ≡ d → ◌≡◌ {A = Fall} (record { span = a; since = b }) (record { span = c; since = d })
alike p q = cc

module _ (f : ℕ → ℕ) where
  -- fewer spans are over by day n than end past it
  pub sum_within : (i k n : ℕ) → sum_to f i ≤ n → n < sum_to f k → i < k
  sum_within i k n h l = lt_or i k (λ g. g) (λ g. absurd (omega (arith, sum_mono f k i g)))

  over_yea : (k n : ℕ) → sum_to f (suc k) ≤ n → spans_over f (suc k) n ≡ suc k
  unfolding spans_over
  over_yea k n h = sym (le_yea _ _ _ _ _ h refl)

  over_nay : (k n : ℕ) → n < sum_to f (suc k) → spans_over f (suc k) n ≡ spans_over f k n
  unfolding spans_over
  over_nay k n h = sym (le_nay _ _ _ _ _ h refl)

  over_none : (n : ℕ) → spans_over f 0 n ≡ 0
  unfolding spans_over
  over_none n = refl

  falls_at : (k n : ℕ) → sum_to f k ≤ n → n < sum_to f (suc k) → FallsIn f n (record { span = k; since = n - sum_to f k })
  unfolding sum_to
  falls_at k n h l = record { start = omega arith; inside = omega arith }

  pub over_falls : (k n : ℕ) → n < sum_to f (suc k) → FallsIn f n (fall_of f k n)
  unfolding fall_of sum_to
  over_falls zero n h = rw (over_none n) (falls_at 0 n (omega arith) h)
  over_falls (suc k) n h =
      lt_or n (sum_to f (suc k)) (λ g. rw (over_nay k n g) (over_falls k n g)) (λ g. rw (over_yea k n g) (falls_at (suc k) n g h))

  pub falls_below : {n : ℕ} {w : Fall} → FallsIn f n w → n < sum_to f (w.span + 1)
  falls_below {n} {w} a = rw (sum_more f w.span) (omega arith)

  pub falls_once : {n : ℕ} {v w : Fall} → FallsIn f n v → FallsIn f n w → v ≡ w
  falls_once {n} {v} {w} a b =
      let h = sum_within v.span (w.span + 1) n (omega arith) (falls_below b) in
      let l = sum_within w.span (v.span + 1) n (omega arith) (falls_below a) in
      let p : v.span ≡ w.span = omega arith in
      let q : v.since ≡ w.since = omega (arith, ap (sum_to f) p) in
      alike p q
