-- Rules 6 and 7 of the tables that frames make. Assumes nothing.
use Prim.Native.Nat.{ℕ, ◌+◌, ◌≤◌, ◌<◌}
use native.Mathlib.Omega.{arith}
use mathlib.Core.Path.{◌≡◌, refl, sym}
use mathlib.Core.Bool.{true}
use mathlib.Core.List.{List, [], ◌∷◌}
use lib.ListN.{length, get_or}
use Rattle.wire.specs.Tests.{if_eq, if_le}
use Rattle.wire.specs.Clauses.{is_eq, is_le, every}
use Rattle.wire.specs.Numbers.{bytes_on, bytes, word}
use Rattle.wire.specs.Sums.{sum_to, all_to}
use Rattle.wire.proofs.Tests.{eq_nay}
use Rattle.wire.proofs.Clauses.{is_eq_lem, is_le_lem}
use Rattle.wire.proofs.Numbers.{word_bytes}
use Rattle.sample_tables.specs.Tables.{items, has_form, table_form}
use Rattle.sample_tables.specs.Times.{counted, timed_to}
use Rattle.sample_tables.specs.Sizes.{sizes_listed, sizes_form}
use Rattle.sample_tables.specs.Runs.{first_chunk, per_chunk, description, rises, run_fine, runs_fine, run_among, run_of}
use Rattle.sample_tables.specs.Chunks.{samples_in, first_sample, offset_at}
use Rattle.sample_tables.specs.Rules.{empty_together, tables_agree}
use Rattle.frames.specs.declared.codec.Codec.{Codec}
use Rattle.from_amr.specs.Fields.{fields}
use Rattle.from_amr.specs.Boxes.{sample_ticks, one_for, sizes_of, stsz, stts, stsc, stco}
use Rattle.from_amr.proofs.Lengths.{stsz_length}
use Rattle.promise_amr.proofs.Sized.{no_common, counts}

-- ---- a table of one item, for some samples

pub one_for_lem : (n : ℕ) (item : List ℕ) → (n ≡ 0 → ⊥) → one_for n item ≡ fields (4 ∷ 0 ∷ 4 ∷ 1 ∷ item)
unfolding one_for
one_for_lem n item h = sym (eq_nay _ _ _ _ _ h refl)

module _ (k : Codec) (n : ℕ) (h : n ≡ 0 → ⊥) (f : n < 4294967296) where
  pub one_timed : (items (stts k n) ≡ 1) × (counted (stts k n) 0 ≡ n) × (table_form 8 (stts k n) ≡ true)
  unfolding fields bytes bytes_on word if_le has_form every is_eq
  one_timed = rw (one_for_lem n (4 ∷ n ∷ 4 ∷ sample_ticks k ∷ []) h) (refl, word_bytes 4 n [] f, refl)

  pub one_run : (items (stsc n) ≡ 1) × (first_chunk (stsc n) 0 ≡ 1) × (per_chunk (stsc n) 0 ≡ n) × (description (stsc n) 0 ≡ 1)
      × (table_form 12 (stsc n) ≡ true)
  unfolding fields bytes bytes_on word if_le has_form every is_eq
  one_run = rw (one_for_lem n (4 ∷ 1 ∷ 4 ∷ n ∷ 4 ∷ 1 ∷ []) h) (refl, refl, word_bytes 4 n [] f, refl, refl)

  pub one_chunk : (o : ℕ) → o < 4294967296 → (items (stco n o) ≡ 1) × (offset_at (stco n o) 0 ≡ o) × (table_form 4 (stco n o) ≡ true)
  unfolding fields bytes bytes_on word if_le has_form every is_eq
  one_chunk o g = rw (one_for_lem n (4 ∷ o ∷ []) h) (refl, word_bytes 4 o [] g, refl)

  -- the chunk has them all
  pub all_in_one : (run_of (stsc n) 0 ≡ 0) × (samples_in (stsc n) 0 ≡ n)
  unfolding run_of run_among samples_in if_le
  all_in_one = let r = one_run in rw (r.0, r.1) (refl, r.2)

-- ---- rule 6

version_zero : (l : List (List ℕ)) → get_or (stsz l) 0 0 ≡ 0
unfolding stsz fields bytes bytes_on
version_zero l = refl

pub sizes_form_lem : (l : List (List ℕ)) → length l < 4294967296 → sizes_form (stsz l) ≡ true
unfolding has_form sizes_listed every if_eq
sizes_form_lem l h = rw (no_common l, counts l h, is_eq_lem _ _ (version_zero l), is_eq_lem _ _ (stsz_length l))

-- ---- rule 7

-- of the tables of some samples
module _ (k : Codec) (l : List (List ℕ)) (h : length l ≡ 0 → ⊥) (f : length l ≤ 65536) where
  runs_agree : runs_fine (stsc (length l)) 1 1 1 ≡ true
  unfolding runs_fine run_fine rises all_to every is_eq is_le if_eq
  runs_agree =
      let r = one_run k (length l) h (omega arith) in
      rw (r.1, r.2, r.3, is_le_lem 1 (length l) (omega arith))

  some_agree : (o : ℕ) → o < 4294967296 → tables_agree (stts k (length l)) (stsc (length l)) (stsz l) (stco (length l) o) 1 ≡ true
  unfolding tables_agree every empty_together timed_to first_sample sum_to is_le if_eq
  some_agree o g =
      let t = one_timed k (length l) h (omega arith) in
      let r = one_run k (length l) h (omega arith) in
      let c = one_chunk k (length l) h (omega arith) o g in
      let a = all_in_one k (length l) h (omega arith) in
      rw (counts l (omega arith), t.0, r.0, c.0, t.1, a.1, runs_agree, is_le_lem (length l) 65536 f, is_eq_lem (0 + length l) (length l) (omega arith))

pub agree : (k : Codec) (l : List (List ℕ)) (o : ℕ) → length l ≤ 65536 → o < 4294967296
    → tables_agree (stts k (length l)) (stsc (length l)) (stsz l) (stco (length l) o) 1 ≡ true
unfolding tables_agree every empty_together timed_to first_sample sum_to runs_fine all_to is_le is_eq if_eq one_for fields bytes bytes_on word if_le stsz sizes_of
agree k [] o f g = refl
agree k (x ∷ l) o f g = some_agree k (x ∷ l) (λ e. omega arith) f o g
