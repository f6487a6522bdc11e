-- Rule 7 of the runs of `stsc`. Assumes nothing.
use Prim.Native.Nat.{ℕ, ◌+◌, ◌-◌, ◌<◌}
use native.Mathlib.Omega.{arith}
use mathlib.Core.Path.{◌≡◌, refl, ◌∙◌}
use mathlib.Core.Bool.{true, false}
use mathlib.Core.List.{List}
use Rattle.wire.proofs.Tests.{eq_yea, eq_nay}
use Rattle.wire.proofs.Sums.{all_none, all_more, all_at, all_fails}
use Rattle.wire.proofs.Clauses.{eq_is, lt_is, le_is, clause}
use Rattle.sample_tables.specs.Tables.{items}
use Rattle.sample_tables.specs.Runs.{rises, run_fine, runs_fine, Rising, Filled}

module _ (stsc : List ℕ) (chunks descriptions : ℕ) where
  pub runs_none : runs_fine stsc chunks descriptions 0 ≡ true
  unfolding runs_fine
  runs_none = all_none (run_fine stsc chunks descriptions)

  pub runs_more : (i : ℕ) → runs_fine stsc chunks descriptions i ≡ true → run_fine stsc chunks descriptions i ≡ true → runs_fine stsc chunks descriptions (i + 1) ≡ true
  unfolding runs_fine
  runs_more = all_more (run_fine stsc chunks descriptions)

  pub runs_fail : (n i : ℕ) → i < n → run_fine stsc chunks descriptions i ≡ false → runs_fine stsc chunks descriptions n ≡ false
  unfolding runs_fine
  runs_fail = all_fails (run_fine stsc chunks descriptions)

  rises_at : (n : ℕ) → runs_fine stsc chunks descriptions n ≡ true → (i : ℕ) → i < n → rises stsc i ≡ true
  unfolding runs_fine run_fine
  rises_at n e i h = clause 0 _ (all_at (run_fine stsc chunks descriptions) n e i h)

  -- the runs that the rule lets through rise from 1
  pub rising : runs_fine stsc chunks descriptions (items stsc) ≡ true → Rising stsc
  unfolding rises
  rising e =
      record {
        one = λ h. eq_is _ _ (eq_yea _ _ _ _ _ refl refl ∙ rises_at (items stsc) e 0 h);
        rise = λ i h.
            let s : i + 1 - 1 ≡ i = omega arith in
            rw s at (lt_is _ _ (eq_nay _ _ _ _ _ (λ z. omega arith) refl ∙ rises_at (items stsc) e (i + 1) h));
      }

  -- and each has a sample and a description
  pub filled : runs_fine stsc chunks descriptions (items stsc) ≡ true → Filled stsc
  unfolding runs_fine run_fine
  filled e =
      record {
        samples = λ i h. le_is _ _ (clause 2 _ (all_at (run_fine stsc chunks descriptions) (items stsc) e i h));
        described = λ i h. le_is _ _ (clause 3 _ (all_at (run_fine stsc chunks descriptions) (items stsc) e i h));
      }
