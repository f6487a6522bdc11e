-- The run of a chunk is the last that starts at or before it; from a chunk to the next it stays or moves by one. Assumes nothing.
use Prim.Native.Nat.{ℕ, zero, suc, ◌+◌, ◌-◌, ◌≤◌, ◌<◌}
use native.Mathlib.Omega.{arith}
use native.Mathlib.Nat.{eq-or-lt_of_le, le_of_suc-le-suc}
use native.Mathlib.Numerals.{add-one}
use mathlib.Core.Path.{◌≡◌, refl}
use mathlib.Core.Bool.{Bool, true, false}
use mathlib.Core.List.{List}
use mathlib.Core.Logic.{⊎_elim}
use lib.Dec.{leb, ltb}
use borrow.Author.Tests.{leb-true, leb-false, ltb-true, ltb-false}
use Rattle.wire.proofs.Tests.{le_yea, le_nay}
use Rattle.sample_tables.specs.Tables.{items}
use Rattle.sample_tables.specs.Runs.{first_chunk, run_among, run_of, Rising}

pub record Last (stsc : List ℕ) (k r : ℕ) : Type 0 where
  pub inside : r < items stsc
  pub reached : first_chunk stsc r ≤ k + 1
  pub past : r + 1 < items stsc → k + 1 < first_chunk stsc (r + 1)

run_none : (stsc : List ℕ) (k : ℕ) → 0 ≡ items stsc → 0 ≡ run_of stsc k
unfolding run_of run_among
run_none stsc k e = rw (← e)

module _ (stsc : List ℕ) (rs : Rising stsc) where
  climbs : (i d : ℕ) → i + d < items stsc → first_chunk stsc i ≤ first_chunk stsc (i + d)
  climbs i zero h = let e : i + 0 ≡ i = omega arith in rw e (omega arith)
  climbs i (suc d) h =
      let e : i + suc d ≡ i + d + 1 = omega arith in
      rw e (omega (arith, climbs i d (omega arith), rs.rise (i + d) (omega arith)))

  among_is : (k r n : ℕ) → Last stsc k r → n ≤ items stsc → r < n → r ≡ run_among stsc k n
  unfolding run_among
  among_is k r zero l h i = absurd (omega arith)
  among_is k r (suc n) l h i =
      ⊎_elim
      (λ e. le_yea _ _ _ _ _ (rw e at l.reached) e)
      (λ i.
      let e : r + 1 + (n - (r + 1)) ≡ n = omega arith in
      let c : first_chunk stsc (r + 1) ≤ first_chunk stsc n = rw e at (climbs (r + 1) (n - (r + 1)) (omega arith)) in
      le_nay _ _ _ _ _ (omega (arith, l.past (omega arith))) (among_is k r n l (omega arith) i))
      (eq-or-lt_of_le (le_of_suc-le-suc i))

  pub run_is : (k r : ℕ) → Last stsc k r → r ≡ run_of stsc k
  unfolding run_of
  run_is k r l = among_is k r (items stsc) l (omega arith) l.inside

  -- ---- from one chunk to the next

  first : 0 < items stsc → Last stsc 0 0
  first h = record { inside = h; reached = omega (arith, rs.one h); past = λ j. omega (arith, rs.one h, rs.rise 0 j) }

  moves : (k r : ℕ) → Last stsc k r → r + 1 < items stsc → first_chunk stsc (r + 1) ≤ k + 2 → Last stsc (k + 1) (r + 1)
  moves k r l i m = record { inside = i; reached = omega arith; past = λ j. omega (arith, l.past i, rs.rise (r + 1) j) }

  stays : (k r : ℕ) → Last stsc k r → (r + 1 < items stsc → k + 2 < first_chunk stsc (r + 1)) → Last stsc (k + 1) r
  stays k r l m = record { inside = l.inside; reached = omega (arith, l.reached); past = λ j. omega (arith, m j) }

  named : (k r : ℕ) → Last stsc k r → Last stsc k (run_of stsc k)
  named k r l = rw (← run_is k r l) l

  next : (k r : ℕ) → Last stsc k r → (s : Bool) → ltb (r + 1) (items stsc) ≡ s → (t : Bool) → leb (first_chunk stsc (r + 1)) (k + 2) ≡ t → Last stsc (k + 1) (run_of stsc (k + 1))
  next k r l true s true t = named (k + 1) (r + 1) (moves k r l (ltb-true _ _ s) (leb-true _ _ t))
  next k r l true s false t = named (k + 1) r (stays k r l (λ i. leb-false _ _ t))
  next k r l false s t u = named (k + 1) r (stays k r l (λ i. absurd (omega (arith, ltb-false (r + 1) (items stsc) s))))

  pub run_last : 0 < items stsc → (k : ℕ) → Last stsc k (run_of stsc k)
  run_last h zero = named 0 0 (first h)
  run_last h (suc k) = rw (← add-one k) (next k (run_of stsc k) (run_last h k) _ refl _ refl)

  pub run_first : 0 ≡ run_of stsc 0
  run_first = go (items stsc) refl
    where
      go : (n : ℕ) → n ≡ items stsc → 0 ≡ run_of stsc 0
      go zero e = run_none stsc 0 e
      go (suc n) e = run_is 0 0 (first (omega arith))

  -- ---- for the code

  module _ (h : 0 < items stsc) (k r : ℕ) (e : r ≡ run_of stsc k) where
    last : Last stsc k r
    last = rw e (run_last h k)

    pub run_inside : r < items stsc
    run_inside = last.inside

    pub run_moves : r + 1 < items stsc → first_chunk stsc (r + 1) ≤ k + 2 → r + 1 ≡ run_of stsc (k + 1)
    run_moves i m = run_is (k + 1) (r + 1) (moves k r last i m)

    pub run_stays : (r + 1 < items stsc → k + 2 < first_chunk stsc (r + 1)) → r ≡ run_of stsc (k + 1)
    run_stays m = run_is (k + 1) r (stays k r last m)
