-- No rule reads the times of headers. Assumes nothing.
use Prim.Native.Nat.{ℕ}
use mathlib.Core.Path.{◌≡◌, refl, sym, ap, ◌∙◌}
use mathlib.Core.Bool.{false}
use mathlib.Core.List.{List}
use lib.ListN.{length, get_or}
use Rattle.wire.specs.Clauses.{is_eq, every, either}
use Rattle.wire.specs.Numbers.{word}
use Rattle.codes.specs.Codes.{DINF, DREF, STBL, STSD, STTS, STSC, STSZ, STCO}
use Rattle.release.specs.declared.Release.{Release}
use Rattle.rule_headers.specs.Forms.{brands_form, head_form, handler_form, form}
use Rattle.edit_shift.specs.Shift.{has_times}
use Rattle.promise_kept.proofs.Sound.{Sound}

-- length, version and the number at 12 are kept, and of a box that has no times all is
pub record Clocked (k c : ℕ) (b b' : List ℕ) : Type 0 where
  pub long : length b ≡ length b'
  pub version : get_or b 0 0 ≡ get_or b' 0 0
  pub number : word 4 b 12 ≡ word 4 b' 12
  pub rest : has_times k c ≡ false → b ≡ b'

-- a body and itself
pub clocked_same : (k c : ℕ) (b : List ℕ) → Clocked k c b b
clocked_same k c b = record { long = refl; version = refl; number = refl; rest = λ u. refl }

-- rule 4 reads no more of any box
clocked_form : (k c : ℕ) (b b' : List ℕ) → Clocked k c b b' → form k c b ≡ form k c b'
unfolding form brands_form head_form handler_form
clocked_form k c b b' r = rw (r.long, r.version, r.number)

-- no box of these containers has times
pub in_stbl : (c : ℕ) (b b' : List ℕ) → Clocked STBL c b b' → b ≡ b'
unfolding has_times either every is_eq
in_stbl c b b' r = r.rest refl

in_dinf : (c : ℕ) (b b' : List ℕ) → Clocked DINF c b b' → b ≡ b'
unfolding has_times either every is_eq
in_dinf c b b' r = r.rest refl

-- an edit of times alone is sound
pub clocked_sound : (release : Release) → Sound release Clocked
unfolding has_times either every is_eq
clocked_sound release =
    record {
      ftyp = λ b b' r. r.rest refl;
      mdat = λ b b' r. r.rest refl;
      forms = λ k c b b' z r q. sym (clocked_form k c b b' r) ∙ q;
      tkhd = λ b b' r. r.number;
      stsd = λ b b' r q. rw (← in_stbl STSD b b' r) q;
      dref = λ b b' r q. rw (← in_dinf DREF b b' r) q;
      urls = λ b b' r q. rw (← in_dinf DREF b b' r) q;
      tables =
          record {
            stts = in_stbl STTS;
            stsc = in_stbl STSC;
            stsz = in_stbl STSZ;
            stco = λ b b' r. let e = in_stbl STCO b b' r in (rw e, rw e);
            stsd = λ b b' r. rw (in_stbl STSD b b' r);
          };
      described =
          record {
            mdhd = λ b b' r. r.number;
            hdlr = λ b b' r. ap (λ (u : List ℕ). word 4 u 8) (r.rest refl);
            dref = λ b b' r. rw (in_dinf DREF b b' r);
            stsd = λ b b' r a q. rw (← in_stbl STSD b b' r) q;
          };
    }
