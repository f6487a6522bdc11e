-- What the answers of the tests of a track say. Assumes nothing.
use Prim.Native.Nat.{ℕ, ◌≤◌}
use native.Mathlib.Omega.{arith}
use mathlib.Core.Path.{◌≡◌, refl, ap, ◌∙◌}
use mathlib.Core.Bool.{Bool, true}
use mathlib.Core.List.{List}
use lib.ListN.{drop}
use Rattle.std.specs.Result.{is_ok}
use Rattle.wire.proofs.Clauses.{clause}
use Rattle.boxes.specs.Boxes.{FRONT, boxes}
use Rattle.layout.specs.declared.track.Track.{Track}
use Rattle.layout.specs.Slots.{slot_in}
use Rattle.sample_tables.specs.Rules.{Six, tables_agree}
use Rattle.sample_tables.proofs.Tables.{form_is}
use Rattle.sample_tables.proofs.Rules.{seven_is}
use Rattle.mdat.specs.Rules.{Ready}
use Rattle.release.specs.declared.Release.TheVariants.{Release6}
use Rattle.rule.specs.Verdict.{is_fine, Verdict, Fine, Bad}
use Rattle.rule_entries.specs.Ten.{entries_fine}
use Rattle.rule_all.specs.Track.{heads_fine, lists_fine, forms_fine, tables_fine, around_in, AllFine}

-- a verdict with a place, as a test
pub fine_ok : (v : Verdict) → is_ok v ≡ is_fine v
fine_ok Fine = refl
fine_ok (Bad p) = refl

pub fine_is : (t : Bool) {v w : Verdict} → v ≡ w → is_fine w ≡ t → {r : Bool} → r ≡ is_ok v → r ≡ t
fine_is t {w = w} e q f = f ∙ ap is_ok e ∙ fine_ok w ∙ q

-- rule 6 of the four tables, as facts
pub tables_six : (xs : List ℕ) (t : Track) → forms_fine xs t ≡ true → Six (slot_in xs t.stts) (slot_in xs t.stsc) (slot_in xs t.stsz) (slot_in xs t.stco)
unfolding forms_fine
tables_six xs t e = record {
  times = form_is _ _ (clause 0 _ e);
  runs = form_is _ _ (clause 1 _ e);
  sizes = form_is _ _ (clause 2 _ e);
  offsets = form_is _ _ (clause 3 _ e);
}

-- with rule 7 they are ready for rule 8
pub tables_ready : (stts stsc stsz stco : List ℕ) (n : ℕ) → Six stts stsc stsz stco → tables_agree stts stsc stsz stco n ≡ true → Ready stsc stsz stco
tables_ready stts stsc stsz stco n s e =
    let a = seven_is stts stsc stsz stco n s e in
    record { walk = a.walk; sizes = s.sizes; few = a.few; total = a.total }

-- all of them: at 10 and over a test holds, and at 11 that of the entries
pub no_answer : (xs : List ℕ) (t : Track) → AllFine xs t 2
no_answer xs t =
    record {
      most = omega arith;
      heads = λ h. absurd (omega arith);
      lists = λ h. absurd (omega arith);
      forms = λ h. absurd (omega arith);
      tables = λ h. absurd (omega arith);
      entries = λ h. absurd (omega arith);
    }

pub all_answer : (xs : List ℕ) (t : Track) (r : ℕ) → r ≤ 11 → heads_fine xs t ≡ true → lists_fine xs t ≡ true → forms_fine xs t ≡ true
    → tables_fine (boxes xs) xs t ≡ true → (11 ≤ r → entries_fine (around_in xs t) Release6 (drop FRONT (slot_in xs t.stsd)) ≡ true) → AllFine xs t r
all_answer xs t r m b c d e f = record { most = m; heads = λ h. b; lists = λ h. c; forms = λ h. d; tables = λ h. e; entries = f }
