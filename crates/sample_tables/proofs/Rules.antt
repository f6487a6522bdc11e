-- Laws of rules 6 and 7. Assumes nothing.
use Prim.Native.Nat.{ℕ, ◌<◌}
use native.Mathlib.Omega.{arith}
use mathlib.Core.Path.{◌≡◌, refl, ◌∙◌}
use mathlib.Core.Bool.{true}
use mathlib.Core.List.{List}
use Rattle.wire.proofs.Tests.{eq_nay}
use Rattle.wire.proofs.Clauses.{eq_is, le_is, clause}
use Rattle.sample_tables.specs.Tables.{items}
use Rattle.sample_tables.specs.Sizes.{sample_count}
use Rattle.sample_tables.specs.Runs.{runs_fine}
use Rattle.sample_tables.specs.Chunks.{offset_at, chunk_at, extent_of, extent_at, Walkable}
use Rattle.sample_tables.specs.Rules.{Six, empty_together, tables_agree, Seven}
use Rattle.sample_tables.proofs.Runs.{rising, filled}

some_runs : (chunks runs n : ℕ) → empty_together chunks runs n ≡ true → 0 < chunks → 0 < runs
unfolding empty_together
some_runs chunks runs n e h = le_is _ _ (eq_nay _ _ _ _ _ (λ z. omega arith) refl ∙ e)

module _ (stts stsc stsz stco : List ℕ) (descriptions : ℕ) (six : Six stts stsc stsz stco) where
  -- the clauses that the walk goes by
  pub walkable : runs_fine stsc (items stco) descriptions (items stsc) ≡ true → empty_together (items stco) (items stsc) (sample_count stsz) ≡ true → Walkable stsc stco
  walkable e f =
      record { runs = six.runs; offsets = six.offsets; rising = rising stsc (items stco) descriptions e; some = some_runs _ _ _ f }

  -- rule 7, as a test and as facts
  pub seven_is : tables_agree stts stsc stsz stco descriptions ≡ true → Seven stts stsc stsz stco
  unfolding tables_agree
  seven_is e =
      record {
        few = le_is _ _ (clause 0 _ e);
        timely = eq_is _ _ (clause 1 _ e);
        total = eq_is _ _ (clause 3 _ e);
        walk = walkable (clause 2 _ e) (clause 4 _ e);
        filled = filled stsc (items stco) descriptions (clause 2 _ e);
      }

-- ---- `stco` is read by its count and its offsets alone

pub seven_same : (stts stsc stsz : List ℕ) (descriptions : ℕ) (o p : List ℕ) → items o ≡ items p → tables_agree stts stsc stsz o descriptions ≡ tables_agree stts stsc stsz p descriptions
unfolding tables_agree
seven_same stts stsc stsz descriptions o p e = rw e

pub chunk_same : (stsc : List ℕ) (k : ℕ) (o p : List ℕ) → offset_at o k ≡ offset_at p k → chunk_at stsc o k ≡ chunk_at stsc p k
unfolding chunk_at
chunk_same stsc k o p e = rw e

pub extent_offset : (stsc stsz stco : List ℕ) (k : ℕ) → (extent_at stsc stsz stco k).offset ≡ offset_at stco k
unfolding extent_of chunk_at
extent_offset stsc stsz stco k = refl
