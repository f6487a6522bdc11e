-- The rewriting of chunk offsets keeps every rule but 8, and relocates where a table has its form. Assumes nothing.
use Prim.Native.Nat.{ℕ, ◌≤◌, ◌<◌}
use native.Mathlib.Omega.{arith}
use mathlib.Core.Path.{◌≡◌, refl, sym, subst}
use mathlib.Core.Bool.{Bool, true, false}
use mathlib.Core.List.{List}
use lib.Dec.{eqb}
use lib.ListN.{length}
use borrow.Author.Tests.{eqb-true}
use Rattle.wire.specs.Tests.{pick, if_eq}
use Rattle.wire.specs.Numbers.{Bytes}
use Rattle.codes.specs.Codes.{STBL, STCO}
use Rattle.wire.proofs.Clauses.{le_is}
use Rattle.wire.proofs.Numbers.{word_fits}
use Rattle.boxes.specs.Box.{Box}
use Rattle.boxes.specs.Words.{reword, reword_leaf}
use Rattle.boxes.specs.Kin.{Leaf}
use Rattle.boxes.specs.Containers.{LONGEST}
use Rattle.boxes.proofs.Kin.{Then, Made}
use Rattle.boxes.proofs.Wording.{reword_length}
use Rattle.sample_tables.specs.Tables.{has_form, table_form}
use Rattle.sample_tables.proofs.Tables.{form_is}
use Rattle.mdat.specs.Relocate.{relocate, Relocated}
use Rattle.mdat.proofs.Rewording.{relocated_reword}
use Rattle.release.specs.declared.Release.{Release}
use Rattle.rule_headers.specs.Forms.{if_box, form}
use Rattle.rule_tracks.specs.Six.{table_fine, table_in, six_rule}
use Rattle.edit_offsets.specs.Settle.{offsets}
use Rattle.promise_kept.proofs.Sound.{Sound}
use Rattle.promise_kept.proofs.Words.{byte_before, word_before}
use Rattle.promise_kept.proofs.Knowing.{With, short}

form_table : (b : List ℕ) → form STBL STCO b ≡ true
unfolding form if_box if_eq
form_table b = refl

module _ (f : ℕ → ℕ) where
  -- rule 4 reads no table
  form_moved : (k c : ℕ) (b : List ℕ) → form k c b ≡ true → form k c (reword_leaf offsets f k c b) ≡ true
  unfolding reword_leaf if_eq
  form_moved k c b = go (eqb k STBL) (eqb c STCO) refl refl
    where
      go : (s t : Bool) → eqb k STBL ≡ s → eqb c STCO ≡ t → form k c b ≡ true → form k c (pick s (pick t (reword f 8 LONGEST b) b) b) ≡ true
      go true true e g q = rw (eqb-true k STBL e, eqb-true c STCO g) (form_table (reword f 8 LONGEST b))
      go true false e g q = q
      go false t e g q = q

  -- the form of a table of numbers stays
  table_moved : (b : List ℕ) → table_form 4 b ≡ table_form 4 (reword f 8 LONGEST b)
  unfolding has_form
  table_moved b = rw (byte_before f 8 LONGEST b 0 (omega arith), word_before f 8 LONGEST b 4 (omega arith), reword_length f 8 LONGEST b)

  -- an edit of chunk offsets alone is sound
  pub offsets_sound : (release : Release) → Sound release (Made (reword_leaf offsets f))
  unfolding reword_leaf if_eq
  offsets_sound release =
      record {
        ftyp = λ b b' r. sym r.0;
        mdat = λ b b' r. sym r.0;
        forms = λ k c b b' z r q. rw r.0 (form_moved k c b q);
        tkhd = λ b b' r. rw r.0;
        stsd = λ b b' r q. rw r.0 q;
        dref = λ b b' r q. rw r.0 q;
        urls = λ b b' r q. rw r.0 q;
        tables =
            record {
              stts = λ b b' r. sym r.0;
              stsc = λ b b' r. sym r.0;
              stsz = λ b b' r. sym r.0;
              stco = λ b b' r. rw r.0 (sym (word_before f 8 LONGEST b 4 (omega arith)), table_moved b);
              stsd = λ b b' r. rw r.0;
            };
        described = record { mdhd = λ b b' r. rw r.0; hdlr = λ b b' r. rw r.0; dref = λ b b' r. rw r.0; stsd = λ b b' r a q. rw r.0 q };
      }

-- ---- rule 8: each offset is relocated

module _ (G : Leaf) (same : (b b' : List ℕ) → G STBL STCO b b' → b ≡ b') (f : ℕ → ℕ) (l m : List Box) (is : (o : ℕ) → f o ≡ relocate l m o) (below : (o : ℕ) → o < 4294967296 → relocate l m o < 4294967296) where
  -- a table that had its form has each offset relocated
  pub offsets_moved : (b b'' : List ℕ) → Then (With six_rule (With (short LONGEST) G)) (Made (reword_leaf offsets f)) STBL STCO b b'' → Relocated l m b b''
  unfolding reword_leaf if_eq table_in table_fine
  offsets_moved b b'' r =
      let e : b ≡ r.0 = same b r.0 r.1.0.0 in
      let n : length b ≤ LONGEST = le_is _ _ r.1.0.1 in
      rw (r.2.0, ← e) (relocated_reword f b LONGEST (form_is _ _ r.1.1) (omega arith) l m (λ k h. is _) (λ k h. below _ (word_fits 4 b _ (subst Bytes (sym e) r.2.1))))
