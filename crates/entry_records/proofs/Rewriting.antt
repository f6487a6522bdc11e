-- A record that was read writes back its bytes. Assumes nothing.
use Prim.Native.Nat.{ℕ}
use mathlib.Core.Path.{◌≡◌, refl, sym, subst, ◌∙◌}
use mathlib.Core.Bool.{Bool, true, false}
use mathlib.Core.List.{List}
use mathlib.Core.Logic.{inl, inr, ⊎_elim}
use Rattle.wire.specs.Tests.{pick}
use Rattle.wire.specs.Numbers.{Bytes, word}
use Rattle.wire.proofs.Tests.{eq_ways}
use Rattle.release.specs.declared.Release.{Release}
use Rattle.entry_heads.specs.Kinds.{S263Kind, kind_of}
use Rattle.std.specs.Prelude.{Option, Some, None}
use Rattle.entry_rules.specs.Entries.{rule_as, entry_rule}
use Rattle.entry_rules.proofs.Speech.{Spoken, speech_met}
use Rattle.entry_rules.proofs.Picture.{picture_met}
use Rattle.entry_records.specs.declared.field.Record.{Record}
use Rattle.entry_records.specs.declared.field.Record.TheVariants.{Speech, Picture}
use Rattle.entry_records.specs.Fields.{amr_in, h263_in, record_in, fields_rule}
use Rattle.entry_records.specs.Texts.{text_of}
use Rattle.entry_records.specs.Records.{read_of}
use Rattle.entry_records.proofs.Hearing.{amr_read_rule, amr_again}
use Rattle.entry_records.proofs.Seeing.{plain_again, rated_again}

-- the writer takes a record, and its text is xs
pub record Again (release : Release) (xs : List ℕ) (r : Option Record) : Type 0 where
  pub rule : fields_rule release r ≡ true
  pub text : text_of r ≡ xs

module _ (release : Release) (xs : List ℕ) (b : Bytes xs) where
  speech_again : (kind : ℕ) → Spoken kind → kind_of (word 4 xs 4) ≡ kind → rule_as kind None release xs ≡ true
      → Again release xs (Some (Speech (amr_in kind xs)))
  speech_again kind s k e =
      let p = speech_met kind release xs s None e in
      record { rule = amr_read_rule release kind xs b s k p; text = amr_again release kind xs b s k p }

  picture_again : kind_of (word 4 xs 4) ≡ S263Kind → rule_as S263Kind None release xs ≡ true → Again release xs (Some (Picture (h263_in xs)))
  picture_again k e =
      ⊎_elim (λ p. let g = plain_again xs b k p in record { rule = g.0; text = g.1 })
      (λ p. let g = rated_again xs b k p in record { rule = g.0; text = g.1 })
      (picture_met release xs None e)

  kind_again : (kind : ℕ) (r : Option Record) → kind_of (word 4 xs 4) ≡ kind → rule_as kind None release xs ≡ true
      → record_in kind xs ≡ r → (r ≡ None → ⊥) → Again release xs r
  unfolding record_in
  kind_again kind r k e h n =
      ⊎_elim (λ w. subst (Again release xs) w.1 (speech_again kind (inl w.0) k e))
      (λ u.
      ⊎_elim (λ w. subst (Again release xs) w.1 (speech_again kind (inr w.0) k e))
      (λ v.
      ⊎_elim (λ w. subst (Again release xs) w.1 (picture_again (k ∙ w.0) (rw w.0 at e)))
      (λ w. absurd (n (sym w.1)))
      (eq_ways _ _ _ _ _ v.1))
      (eq_ways _ _ _ _ _ u.1))
      (eq_ways _ _ _ _ _ h)

  -- a record that was read is one that the writer takes, and writes back its bytes
  pub read_writes : (r : Option Record) → read_of release xs ≡ r → (r ≡ None → ⊥) → Again release xs r
  unfolding read_of entry_rule
  read_writes r h n = go (entry_rule None release xs) refl h
    where
      go : (t : Bool) → entry_rule None release xs ≡ t → pick t (record_in (kind_of (word 4 xs 4)) xs) None ≡ r → Again release xs r
      go true e q = kind_again (kind_of (word 4 xs 4)) r refl e q n
      go false e q = absurd (n (sym q))
