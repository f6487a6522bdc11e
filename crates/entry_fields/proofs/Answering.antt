-- How the two calls keep their promises. Assumes nothing.
use Prim.Native.Nat.{ℕ, ◌≤◌}
use native.Mathlib.Omega.{arith}
use mathlib.Core.Path.{◌≡◌, refl, sym, ap, ◌∙◌}
use mathlib.Core.Bool.{Bool, true, false}
use mathlib.Core.List.{List, [], ◌∷◌, ◌++◌}
use lib.Dec.{ltb}
use lib.ListN.{length, drop}
use Rattle.wire.specs.Tests.{pick, if_lt}
use Rattle.release.specs.declared.Release.{Release}
use Rattle.entry_records.specs.declared.field.Record.{Record}
use Rattle.std.specs.Prelude.{Option, Some, None}
use Rattle.std.specs.Prelude as written
use Rattle.entry_records.specs.declared.record.WriteError.{WriteError}
use Rattle.entry_records.specs.declared.record.WriteError.TheVariants.{BadFields, TooShort}
use Rattle.entry_records.specs.Fields.{fields_rule}
use Rattle.entry_records.specs.Texts.{text_of}
use Rattle.entry_records.specs.Records.{fields_of, written_number, written_value, read_of, written_of, out_of}
use Rattle.rule.specs.Results.{asked, answer_in, left_in, Exact}
use Rattle.rule.specs.Results.ToWrite.{gives}
use Rattle.rule.proofs.Results.{exact_refuses, exact_wrote}
use Rattle.entry_fields.specs.Numbers.{record_of, read_result, write_result}
use Rattle.rule.specs.Answers.{Answer, Done, Refused}

-- ---- numbers into a list

-- as many of them as its length, at the front
pub front_fits : (ns out : List ℕ) {n : ℕ} → n ≡ length ns → n ≤ length out → {xs : List ℕ} → xs ≡ ns → Exact (gives ns) out (Done n) (xs ++ drop n out)
front_fits ns out {n} e h q = exact_wrote ns out (omega arith) (record { span = e; is = ap (λ (ys : List ℕ). ys ++ drop n out) q })

-- ---- the reader

module _ (release : Release) (xs out : List ℕ) {r : Option Record} (e : r ≡ read_of release xs) where
  pub read_some : (s : Record) → r ≡ Some s → {a : Answer} {left : List ℕ} → Exact (gives (fields_of (Some s))) out a left
      → Exact (read_result release xs) out a left
  unfolding read_result asked
  read_some s g x = let f : read_of release xs ≡ Some s = sym e ∙ g in rw f x

  pub read_none : r ≡ None → Exact (read_result release xs) out (Refused 21 0) out
  unfolding read_result asked
  read_none g = let f : read_of release xs ≡ None = sym e ∙ g in rw f (exact_refuses 21 0 out)

-- ---- the writer

-- an answer of it in the paper's numbers
abbrev pub written_answer : written.Result ℕ WriteError → Answer
written_answer (written.Ok n) = Done n
written_answer (written.Err e) = Refused (written_number (written.Err e)) (written_value (written.Err e))

writes : (t : Bool) (r : Option Record) (out : List ℕ)
    → Exact (asked ((21, t) ∷ []) (gives (text_of r))) out
    (written_answer (pick t (if_lt (length out) (length (text_of r)) (written.Err TooShort) (written.Ok (length (text_of r)))) (written.Err BadFields)))
    (pick t (if_lt (length out) (length (text_of r)) out (text_of r ++ drop (length (text_of r)) out)) out)
unfolding asked answer_in left_in if_lt
writes false r out = record { answers = refl; leaves = refl }
writes true r out = record { answers = go (ltb (length out) (length (text_of r))); leaves = refl }
  where
    go : (t : Bool) → written_answer (pick t (written.Err TooShort) (written.Ok (length (text_of r)))) ≡ pick t (Refused 25 0) (Done (length (text_of r)))
    go true = refl
    go false = refl

pub write_as : (release : Release) (ns out : List ℕ) {r : Option Record} {w v : written.Result ℕ WriteError} {left : List ℕ} → r ≡ record_of ns
    → (w ≡ written_of release r out) × (left ≡ out_of release r out) → w ≡ v → Exact (write_result release ns) out (written_answer v) left
unfolding write_result written_of out_of
write_as release ns out e (p, q) g =
    let x = writes (fields_rule release (record_of ns)) (record_of ns) out in
    record { answers = ap written_answer (sym g ∙ p) ∙ rw e x.answers; leaves = q ∙ rw e x.leaves }
