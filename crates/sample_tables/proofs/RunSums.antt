-- The samples over all chunks, run by run. Assumes nothing.
use Prim.Native.Nat.{ℕ, ◌+◌, ◌-◌, ◌*◌, ◌≤◌, ◌<◌, min}
use native.Mathlib.Omega.{arith}
use mathlib.Core.Path.{◌≡◌, refl, sym, ap, ◌∙◌}
use mathlib.Core.List.{List}
use Rattle.wire.proofs.Tests.{lt_yea, lt_nay, lt_or}
use Rattle.wire.proofs.Sums.{sum_level}
use Rattle.sample_tables.specs.Tables.{items}
use Rattle.sample_tables.specs.Runs.{first_chunk, per_chunk, run_start, Rising}
use Rattle.sample_tables.specs.Chunks.{samples_in, first_sample, Covers}
use Rattle.sample_tables.proofs.LastRun.{run_is}

module _ (stsc : List ℕ) (chunks : ℕ) where
  start_here : (i : ℕ) → i < items stsc → run_start stsc chunks i ≡ min (first_chunk stsc i - 1) chunks
  unfolding run_start
  start_here i h = sym (lt_yea _ _ _ _ _ h refl)

  -- past the last run all stand before it
  pub start_past : (i : ℕ) → items stsc ≤ i → run_start stsc chunks i ≡ chunks
  unfolding run_start
  start_past i h = sym (lt_nay _ _ _ _ _ h refl)

  -- before the first none
  pub start_first : Rising stsc → (0 < chunks → 0 < items stsc) → 0 ≡ run_start stsc chunks 0
  start_first rs h =
      lt_or 0 (items stsc)
      (λ l. rw (start_here 0 l) (omega (arith, rs.one l)))
      (λ l. rw (start_past 0 l) (lt_or 0 chunks (λ m. absurd (omega (arith, h m))) (λ m. omega arith)))

  module _ (rs : Rising stsc) (i : ℕ) (h : i < items stsc) where
    pub covers : {k end : ℕ} → k ≡ run_start stsc chunks i → end ≡ run_start stsc chunks (i + 1) → Covers stsc chunks i k end
    covers {k} {end} p q =
        lt_or (i + 1) (items stsc)
        (λ m.
        let a = p ∙ start_here i h in
        let b = q ∙ start_here (i + 1) m in
        record {
          inside = h;
          ordered = omega (arith, rs.rise i m);
          within = omega arith;
          own = λ j f g. run_is stsc rs j i (record { inside = h; reached = omega arith; past = λ l. omega arith });
        })
        (λ m.
        let a = p ∙ start_here i h in
        let b = q ∙ start_past (i + 1) m in
        record {
          inside = h;
          ordered = omega arith;
          within = omega arith;
          own = λ j f g. run_is stsc rs j i (record { inside = h; reached = omega arith; past = λ l. absurd (omega arith) });
        })

-- the chunks of a run add as many samples each
pub run_more : {stsc : List ℕ} {chunks i k end per : ℕ} → Covers stsc chunks i k end → per ≡ per_chunk stsc i
    → first_sample stsc end ≡ first_sample stsc k + (end - k) * per
unfolding first_sample samples_in
run_more {stsc} {chunks} {i} {k} {end} {per} c r =
    let e : k + (end - k) ≡ end = omega (arith, c.ordered) in
    sym (ap (first_sample stsc) e) ∙ sum_level (samples_in stsc) k (end - k) per
    (λ j l. ap (per_chunk stsc) (sym (c.own (k + j) (omega arith) (omega arith))) ∙ sym r)
