-- The edit of one `stsd`, and what it keeps where one of its entries has another decoder record. Assumes nothing.
use Prim.Native.Nat.{ℕ, ◌≤◌}
use native.Mathlib.Omega.{arith}
use mathlib.Core.Path.{◌≡◌, refl, subst}
use mathlib.Core.Bool.{true}
use mathlib.Core.List.{List}
use mathlib.Core.Logic.{⊎_elim}
use lib.ListN.{length, drop}
use Rattle.wire.specs.Tests.{if_eq}
use Rattle.wire.specs.Numbers.{Bytes, word}
use Rattle.codes.specs.Codes.{FTYP, TRAK, TKHD, MDIA, MDHD, HDLR, DINF, DREF, STBL, STSD, STTS, STSC, STSZ, STCO, MDAT}
use Rattle.boxes.specs.Containers.{FILE, DEPTH, LONGEST}
use Rattle.boxes.specs.Kin.{Kin}
use Rattle.boxes.specs.Boxes.{FRONT, boxes}
use Rattle.boxes.proofs.Reading.{All}
use Rattle.boxes.proofs.Down.{Once}
use Rattle.release.specs.declared.Release.{Release}
use Rattle.std.specs.Prelude.{Option}
use Rattle.entry_rules.specs.declared.entry.Around.{Around}
use Rattle.rule_lists.specs.Five.{list_form}
use Rattle.rule_headers.specs.Forms.{if_box, form}
use Rattle.rule_entries.specs.Ten.{entries_fine}
use Rattle.edit_offsets.proofs.Closing.{ShutMoov}
use Rattle.promise_kept.proofs.Sound.{Sound}
use Rattle.promise_kept.proofs.Content.{Content, kin_shut}
use Rattle.promise_kept.proofs.Changed.{Changed, changed_fine, changed_stored, changed_form}

-- rule 4 reads no `stsd`
form_stsd : (b : List ℕ) → form STBL STSD b ≡ true
unfolding form if_box if_eq
form_stsd b = refl

module _ (b₀ b₁ : List ℕ) where
  -- any other box
  other : (k c : ℕ) → (k ≡ STBL → c ≡ STSD → ⊥) → (b b' : List ℕ) → Once STBL STSD b₀ b₁ k c b b' → b ≡ b'
  other k c n b b' = ⊎_elim (λ e. e) (λ r. absurd (n r.0 r.1))

  -- what is kept of the one body is kept of all
  at_stsd : (P : List ℕ → List ℕ → Type 0) → ((b : List ℕ) → P b b) → P b₀ b₁ → (b b' : List ℕ) → Once STBL STSD b₀ b₁ STBL STSD b b' → P b b'
  at_stsd P same one b b' = ⊎_elim (λ e. subst (P b) e (same b)) (λ r. rw (r.2, r.3) one)

  form_once : (k c : ℕ) (b b' : List ℕ) → Once STBL STSD b₀ b₁ k c b b' → form k c b ≡ true → form k c b' ≡ true
  form_once k c b b' r q = ⊎_elim (λ e. rw (← e) q) (λ s. rw (s.0, s.1) (form_stsd b')) r

  module _ (release : Release) (new : List ℕ) (h : Changed release new b₀ b₁) where
    pub once_sound : Sound release (Once STBL STSD b₀ b₁)
    once_sound =
        record {
          ftyp = other FILE FTYP (λ e f. omega arith);
          mdat = other FILE MDAT (λ e f. omega arith);
          forms = λ k c b b' z r. form_once k c b b' r;
          tkhd = λ b b' r. rw (other TRAK TKHD (λ e f. omega arith) b b' r);
          stsd = at_stsd (λ b b'. list_form b ≡ true → list_form b' ≡ true) (λ b q. q) (changed_form release new b₀ b₁ h);
          dref = λ b b' r q. rw (← other DINF DREF (λ e f. omega arith) b b' r) q;
          urls = λ b b' r q. rw (← other DINF DREF (λ e f. omega arith) b b' r) q;
          tables =
              record {
                stts = other STBL STTS (λ e f. omega arith);
                stsc = other STBL STSC (λ e f. omega arith);
                stsz = other STBL STSZ (λ e f. omega arith);
                stco = λ b b' r. let e = other STBL STCO (λ e f. omega arith) b b' r in (rw e, rw e);
                stsd = at_stsd (λ b b'. word 4 b 4 ≡ word 4 b' 4) (λ b. refl) (changed_stored release new b₀ b₁ h);
              };
          described =
              record {
                mdhd = λ b b' r. rw (other MDIA MDHD (λ e f. omega arith) b b' r);
                hdlr = λ b b' r. rw (other MDIA HDLR (λ e f. omega arith) b b' r);
                dref = λ b b' r. rw (other DINF DREF (λ e f. omega arith) b b' r);
                stsd = at_stsd (λ b b'. (a : Option Around) → entries_fine a release (drop FRONT b) ≡ true → entries_fine a release (drop FRONT b') ≡ true) (λ b a q. q) (changed_fine release new b₀ b₁ h);
              };
        }

    -- one entry of the file has another decoder record
    pub once_content : (xs ys : List ℕ) → Kin (Once STBL STSD b₀ b₁) DEPTH FILE xs ys → Bytes ys → length ys ≤ LONGEST → All ShutMoov (boxes xs) → Content release xs ys
    once_content xs ys k w n o = record { leaf = Once STBL STSD b₀ b₁; kin = k; sound = once_sound; stco = other STBL STCO (λ e f. omega arith); shut = kin_shut k.0 o; bytes = w; small = n }
