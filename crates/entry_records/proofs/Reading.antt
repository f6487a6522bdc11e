-- A record that the writer takes reads back as itself. Assumes nothing.
use Prim.Native.Nat.{ℕ}
use native.Mathlib.Omega.{arith}
use mathlib.Core.Path.{◌≡◌, refl, sym, ap, ◌∙◌}
use mathlib.Core.Bool.{true, false≢true}
use mathlib.Core.List.{List}
use mathlib.Core.Logic.{inl, inr, ⊎_elim}
use Rattle.wire.specs.Tests.{if_eq}
use Rattle.wire.specs.Numbers.{word}
use Rattle.codes.specs.Codes.{S263}
use Rattle.wire.proofs.Tests.{eq_yea, eq_nay}
use Rattle.wire.proofs.Clauses.{eq_is, clause, of_two}
use Rattle.release.specs.declared.Release.{Release}
use Rattle.entry_heads.specs.Kinds.{S263Kind, kind_of}
use Rattle.entry_heads.proofs.Coding.{code_kind}
use Rattle.std.specs.Prelude.{Option, Some, None}
use Rattle.entry_rules.specs.Entries.{rule_as, entry_rule}
use Rattle.entry_rules.proofs.Speech.{Spoken, speech_is}
use Rattle.entry_rules.proofs.Picture.{picture_is, rated_is}
use Rattle.entry_records.specs.declared.field.Amr.{Amr}
use Rattle.entry_records.specs.declared.field.H263.{H263}
use Rattle.entry_records.specs.declared.field.Record.{Record}
use Rattle.entry_records.specs.declared.field.Record.TheVariants.{Speech, Picture}
use Rattle.entry_records.specs.Fields.{amr_in, h263_in, record_in, amr_rule, h263_rule, fields_rule}
use Rattle.entry_records.specs.Texts.{amr_text, plain_text, rated_text, h263_text, text_of}
use Rattle.entry_records.specs.Records.{read_of}
use Rattle.entry_records.proofs.Fitting.{rates_met}
use Rattle.entry_records.proofs.Speaking.{amr_words, amr_at, amr_back}
use Rattle.entry_records.proofs.Showing.{Shows, plain_shows, rated_shows, rated_at}

record_speech : (kind : ℕ) (xs : List ℕ) → Spoken kind → Some (Speech (amr_in kind xs)) ≡ record_in kind xs
unfolding record_in
record_speech kind xs s =
    ⊎_elim (λ e. eq_yea _ _ _ _ _ e refl) (λ e. eq_nay _ _ _ _ _ (λ z. omega arith) (eq_yea _ _ _ _ _ e refl)) s

speech_kind : (release : Release) (f : Amr) → amr_rule release f ≡ true → Spoken f.kind
unfolding amr_rule
speech_kind release f e = of_two _ _ (clause 0 _ e) (λ w. inl (eq_is _ _ w)) (λ w. inr (eq_is _ _ w))

-- an entry that meets its rule is read by its kind
read_as : (release : Release) (kind : ℕ) (xs : List ℕ) → kind_of (word 4 xs 4) ≡ kind → rule_as kind None release xs ≡ true → record_in kind xs ≡ read_of release xs
unfolding read_of entry_rule
read_as release kind xs k e = rw (k, e)

record_picture : (xs : List ℕ) → Some (Picture (h263_in xs)) ≡ record_in S263Kind xs
unfolding record_in if_eq
record_picture xs = refl

kind_s263 : kind_of S263 ≡ S263Kind
unfolding kind_of if_eq
kind_s263 = refl

read_speech : (release : Release) (f : Amr) → amr_rule release f ≡ true → read_of release (amr_text f) ≡ Some (Speech f)
read_speech release f e =
    let s = speech_kind release f e in
    let k : kind_of (word 4 (amr_text f) 4) ≡ f.kind = ap kind_of (amr_words release f s e).code ∙ code_kind f.kind (⊎_elim (λ q. omega arith) (λ q. omega arith) s) in
    sym (read_as release f.kind (amr_text f) k (speech_is f.kind release (amr_text f) s None (amr_at release f s e) refl))
    ∙ sym (record_speech f.kind (amr_text f) s) ∙ ap (λ (g : Amr). Some (Speech g)) (amr_back release f s e)

-- a picture's text that shows the fields
read_text : (release : Release) (n : ℕ) (f : H263) (xs : List ℕ) → Shows n f xs → rule_as S263Kind None release xs ≡ true
    → read_of release xs ≡ Some (Picture f)
read_text release n f xs p e =
    sym (read_as release S263Kind xs (ap kind_of p.code ∙ kind_s263) e) ∙ sym (record_picture xs) ∙ ap (λ (g : H263). Some (Picture g)) p.back

read_picture : (release : Release) (f : H263) → h263_rule f ≡ true → read_of release (h263_text f) ≡ Some (Picture f)
unfolding h263_text h263_rule
read_picture release f e =
    ⊎_elim
    (λ r.
    let t : rated_text f ≡ if_eq f.rates.given 1 (rated_text f) (plain_text 101 15 f) = eq_yea _ _ _ _ _ r.flag refl in
    rw (← t) (read_text release 31 f (rated_text f) (rated_shows f e r) (rated_is release (rated_text f) None refl (rated_at f e r))))
    (λ r.
    let t : plain_text 101 15 f ≡ if_eq f.rates.given 1 (rated_text f) (plain_text 101 15 f) = eq_nay _ _ _ _ _ (λ z. omega (arith, r.flag)) refl in
    let p = plain_shows f e r in
    rw (← t) (read_text release 15 f (plain_text 101 15 f) p (picture_is release (plain_text 101 15 f) None refl p.start)))
    (rates_met f.rates (clause 7 _ e))

-- a record that the writer takes reads back as itself
pub written_reads : (release : Release) (r : Option Record) → fields_rule release r ≡ true → read_of release (text_of r) ≡ r
written_reads release (Some (Speech f)) e = read_speech release f e
written_reads release (Some (Picture f)) e = read_picture release f e
written_reads release None e = absurd (false≢true e)
