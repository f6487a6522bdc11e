-- Numbers that are written read back as themselves, and an entry that is read writes back its bytes. Assumes nothing.
use Prim.Native.Nat.{ℕ, zero, suc, ◌+◌}
use native.Mathlib.Omega.{arith}
use mathlib.Core.Path.{◌≡◌, refl, sym, ap, ◌∙◌}
use mathlib.Core.Bool.{Bool, true, false≢true}
use mathlib.Core.List.{List, [], ◌∷◌}
use mathlib.Core.Logic.{⊎_elim}
use lib.ListN.{length, get_or, take, drop}
use lib.Seq.{drop-cons, drop-length}
use Rattle.std.specs.Prelude.{Option, Some, None}
use Rattle.wire.specs.Tests.{if_eq}
use Rattle.wire.specs.Numbers.{Bytes}
use Rattle.wire.proofs.Clauses.{clause}
use Rattle.wire.proofs.Tests.{eq_ways}
use Rattle.release.specs.declared.Release.{Release}
use Rattle.entry_records.specs.declared.field.Record.{Record}
use Rattle.entry_records.specs.declared.field.Record.TheVariants.{Speech, Picture}
use Rattle.entry_records.specs.Fields.{fields_rule}
use Rattle.entry_records.specs.Texts.{text_of}
use Rattle.entry_records.specs.Records.{fields_of, read_of}
use Rattle.entry_records.proofs.Reading.{written_reads}
use Rattle.entry_records.proofs.Rewriting.{read_writes}
use Rattle.rule.specs.Results.{ToWrite, asked, answer_in, left_in}
use Rattle.rule.specs.Results.ToWrite.{gives}
use Rattle.rule.proofs.Results.{asked_gave}
use Rattle.entry_fields.specs.Numbers.{record_of, is_record, read_result, write_result}
use Rattle.rule.specs.Answers.{Done}

-- ---- records and their numbers

-- a record is that of its fields
pub record_back : (r : Option Record) → record_of (fields_of r) ≡ r
unfolding record_of if_eq
record_back (Some (Speech f)) = refl
record_back (Some (Picture f)) = refl
record_back None = refl

-- k numbers from number i on
abbrev from : ℕ → ℕ → List ℕ → List ℕ
from zero i ns = []
from (suc k) i ns = get_or ns i 0 ∷ from k (suc i) ns

from_rest : (k i : ℕ) (ns : List ℕ) → length ns ≡ i + k → from k i ns ≡ drop i ns
from_rest zero i ns l = let e : i ≡ length ns = omega arith in sym (rw e (drop-length ns))
from_rest (suc k) i ns l = ap (λ (r : List ℕ). get_or ns i 0 ∷ r) (from_rest k (suc i) ns (omega arith)) ∙ sym (drop-cons ns i 0 (omega arith))

-- numbers that are those of a record are its fields
pub fields_back : (ns : List ℕ) → (record_of ns ≡ None → ⊥) → fields_of (record_of ns) ≡ ns
unfolding record_of
fields_back ns h =
    ⊎_elim (λ w. ap fields_of (sym w.1) ∙ from_rest 8 0 ns w.0)
    (λ u.
    ⊎_elim
    (λ v.
    ⊎_elim (λ w. ap fields_of (sym w.1) ∙ ap (λ (k : ℕ). k ∷ from 10 1 ns) (sym w.0) ∙ from_rest 11 0 ns v.0)
    (λ w. absurd (h (sym w.1)))
    (eq_ways _ _ _ _ _ v.1))
    (λ v. absurd (h (sym v.1)))
    (eq_ways _ _ _ _ _ u.1))
    (eq_ways _ _ _ _ (record_of ns) refl)

-- ---- the round trips

is_record_lem : (r : Option Record) → (r ≡ None → ⊥) → is_record r ≡ true
is_record_lem (Some r) h = refl
is_record_lem None h = absurd (h refl)

not_none : (r : Option Record) → is_record r ≡ true → r ≡ None → ⊥
not_none r e g = false≢true (sym (ap is_record g) ∙ e)

rule_some : (release : Release) (r : Option Record) → fields_rule release r ≡ true → r ≡ None → ⊥
rule_some release r e g = false≢true (sym (ap (fields_rule release) g) ∙ e)

-- a test that holds says nothing
holding : (n : ℕ) (t : Bool) (g : ToWrite) → t ≡ true → asked ((n, t) ∷ []) g ≡ g
unfolding asked
holding n t g e = rw e

-- numbers that the writer takes: reading the entry that it wrote gives them
pub written_back : (release : Release) (ns out : List ℕ) (n : ℕ) → answer_in (write_result release ns) out ≡ Done n → read_result release (take n (left_in (write_result release ns) out)) ≡ gives ns
unfolding write_result read_result
written_back release ns out n e =
    let a = asked_gave ((21, fields_rule release (record_of ns)) ∷ []) (text_of (record_of ns)) out n e in
    let c : fields_rule release (record_of ns) ≡ true = clause 0 _ a.0 in
    let h = rule_some release (record_of ns) c in
    rw (a.1, written_reads release (record_of ns) c, fields_back ns h) (holding 21 (is_record (record_of ns)) (gives ns) (is_record_lem (record_of ns) h))

-- an entry that the reader takes: writing the fields that it read gives its bytes
pub read_back : (release : Release) (xs room : List ℕ) (n : ℕ) → Bytes xs → answer_in (read_result release xs) room ≡ Done n → write_result release (take n (left_in (read_result release xs) room)) ≡ gives xs
unfolding write_result read_result
read_back release xs room n b e =
    let a = asked_gave ((21, is_record (read_of release xs)) ∷ []) (fields_of (read_of release xs)) room n e in
    let c : is_record (read_of release xs) ≡ true = clause 0 _ a.0 in
    let w = read_writes release xs b (read_of release xs) refl (not_none (read_of release xs) c) in
    rw (a.1, record_back (read_of release xs), w.text) (holding 21 (fields_rule release (read_of release xs)) (gives xs) w.rule)
