-- The entry that the fields of a `samr` or `sawb` record make. Assumes nothing.
use Prim.Native.Nat.{ℕ, ◌<◌}
use native.Mathlib.Omega.{arith}
use mathlib.Core.Path.{◌≡◌, refl}
use mathlib.Core.Bool.{true}
use mathlib.Core.List.{List, []}
use mathlib.Core.Logic.{⊎_elim}
use lib.ListN.{take}
use Rattle.wire.specs.Tests.{if_eq, if_le}
use Rattle.wire.specs.Numbers.{bytes_on, bytes, word}
use Rattle.codes.specs.Codes.{DAMR}
use Rattle.wire.proofs.Clauses.{lt_is, clause}
use Rattle.wire.proofs.Numbers.{word_bytes}
use Rattle.release.specs.declared.Release.{Release}
use Rattle.entry_heads.specs.Kinds.{code_of}
use Rattle.entry_heads.specs.Heads.{box_header, common_head, audio_head}
use Rattle.entry_heads.proofs.Heading.{audio_made}
use Rattle.entry_rules.proofs.Speech.{Spoken, SpeechAt}
use Rattle.entry_records.specs.declared.field.Amr.{Amr}
use Rattle.entry_records.specs.Fields.{amr_in, amr_rule}
use Rattle.entry_records.specs.Texts.{amr_text}
use Rattle.entry_records.proofs.Lengths.{amr_length}

code_fits : (kind : ℕ) → Spoken kind → code_of kind < 4294967296
unfolding code_of if_eq
code_fits kind s = ⊎_elim (λ e. rw e (omega arith)) (λ e. rw e (omega arith)) s

-- what stands where in it
pub record AmrWords (f : Amr) (xs : List ℕ) : Type 0 where
  pub span : word 4 xs 0 ≡ 53
  pub code : word 4 xs 4 ≡ code_of f.kind
  pub reference : word 2 xs 14 ≡ f.reference
  pub scale : word 2 xs 32 ≡ f.scale
  pub inner : word 4 xs 36 ≡ 17
  pub damr : word 4 xs 40 ≡ DAMR
  pub vendor : word 4 xs 44 ≡ f.vendor
  pub version : word 1 xs 48 ≡ f.version
  pub modes : word 2 xs 49 ≡ f.modes
  pub period : word 1 xs 51 ≡ f.period
  pub frames : word 1 xs 52 ≡ f.frames

module _ (release : Release) (f : Amr) (s : Spoken f.kind) (a : amr_rule release f ≡ true) where
  pub amr_words : AmrWords f (amr_text f)
  unfolding amr_rule amr_text audio_head common_head box_header bytes bytes_on word if_le
  amr_words =
      record {
        span = refl;
        code = word_bytes 4 (code_of f.kind) [] (code_fits f.kind s);
        reference = word_bytes 2 f.reference [] (lt_is _ _ (clause 1 _ a));
        scale = word_bytes 2 f.scale [] (lt_is _ _ (clause 2 _ a));
        inner = refl;
        damr = refl;
        vendor = word_bytes 4 f.vendor [] (lt_is _ _ (clause 3 _ a));
        version = word_bytes 1 f.version [] (lt_is _ _ (clause 4 _ a));
        modes = word_bytes 2 f.modes [] (lt_is _ _ (clause 5 _ a));
        period = word_bytes 1 f.period [] (lt_is _ _ (clause 6 _ a));
        frames = word_bytes 1 f.frames [] (lt_is _ _ (clause 7 _ a));
      }

  amr_front : take 36 (amr_text f) ≡ audio_head 53 (code_of f.kind) f.reference f.scale
  unfolding amr_text audio_head common_head box_header bytes bytes_on
  amr_front = refl

  pub amr_at : SpeechAt f.kind release (amr_text f)
  unfolding amr_rule
  amr_at =
      let w = amr_words in
      record {
        long = amr_length f;
        span = w.span;
        head = audio_made (amr_text f) 53 (code_of f.kind) f.reference f.scale amr_front;
        inner = w.inner;
        code = w.damr;
        frames = rw (w.modes, w.period, w.frames) (clause 8 _ a);
      }

  pub amr_back : amr_in f.kind (amr_text f) ≡ f
  amr_back = let w = amr_words in rw (w.reference, w.scale, w.vendor, w.version, w.modes, w.period, w.frames)
