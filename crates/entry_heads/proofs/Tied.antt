-- The law that ties the rule of a head to the writers: an entry has the rule exactly when it begins with the head that the
-- writers make of the fields that stand in it. Assumes nothing.
use Prim.Native.Nat.{ℕ}
use mathlib.Core.Path.{◌≡◌, refl, sym, ap, ◌∙◌}
use mathlib.Core.Bool.{true}
use mathlib.Core.List.{List}
use lib.ListN.{take}
use Rattle.wire.specs.Tests.{if_eq}
use Rattle.wire.specs.Numbers.{Bytes, bytes, word}
use Rattle.codes.specs.Codes.{SOUN, VIDE}
use Rattle.wire.proofs.Tests.{eq_yea, eq_nay, eq_or}
use Rattle.wire.proofs.Clauses.{eq_is, le_is, clause}
use Rattle.entry_heads.specs.Kinds.{Avc1Kind, handler_of}
use Rattle.entry_heads.specs.Heads.{head_size, head_in, name_in, common_rule, visual_rule, head_rule}
use Rattle.entry_heads.proofs.Heading.{common_begins, audio_begins, visual_begins, name_zero, common_made, audio_made, visual_made, audio_size, audio_rule_lem, visual_size, visual_rule_lem, common_size, common_rule_lem}

module _ (kind : ℕ) (xs : List ℕ) where
  name_is : visual_rule kind xs ≡ true → bytes 32 (word 32 xs 50) ≡ name_in kind xs
  unfolding name_in
  name_is r = ap (bytes 32) (eq_or kind Avc1Kind (λ e. eq_yea _ _ _ _ _ e refl) (λ e. eq_nay _ _ _ _ _ e (name_zero kind xs e r)))

  name_none : (kind ≡ Avc1Kind → ⊥) → if_eq kind Avc1Kind (word 32 xs 50) 0 ≡ 0
  name_none e = sym (eq_nay _ _ _ _ _ e refl)

  -- an entry that has the rule begins so
  pub head_begins : Bytes xs → head_rule kind xs ≡ true → take (head_size kind) xs ≡ head_in kind xs
  unfolding head_in common_rule
  head_begins b r =
      eq_or (handler_of kind) SOUN
      (λ h. rw (audio_size kind h) (eq_yea _ _ _ _ _ h (audio_begins xs b (sym (audio_rule_lem kind h xs) ∙ r))))
      (λ h.
      eq_or (handler_of kind) VIDE
      (λ g.
      let v = sym (visual_rule_lem kind g xs) ∙ r in
      rw (visual_size kind g) (eq_nay _ _ _ _ _ h (eq_yea _ _ _ _ _ g (rw (name_is v) at (visual_begins xs b kind v)))))
      (λ g.
      let v = sym (common_rule_lem kind h g xs) ∙ r in
      rw (common_size kind h g) (eq_nay _ _ _ _ _ h (eq_nay _ _ _ _ _ g (common_begins xs b (le_is _ _ (clause 0 _ v)) (eq_is _ _ (clause 1 _ v)))))))

  -- and one that begins so has the rule
  pub head_made : take (head_size kind) xs ≡ head_in kind xs → head_rule kind xs ≡ true
  unfolding head_in name_in
  head_made e =
      eq_or (handler_of kind) SOUN
      (λ h. audio_rule_lem kind h xs ∙ audio_made xs _ _ _ _ (rw (audio_size kind h) at e ∙ sym (eq_yea _ _ _ _ _ h refl)))
      (λ h.
      eq_or (handler_of kind) VIDE
      (λ g.
      visual_rule_lem kind g xs
      ∙ visual_made xs _ _ _ kind _ name_none _ _ (rw (visual_size kind g) at e ∙ sym (eq_nay _ _ _ _ _ h (eq_yea _ _ _ _ _ g refl))))
      (λ g. common_rule_lem kind h g xs ∙ common_made xs _ _ _ (rw (common_size kind h g) at e ∙ sym (eq_nay _ _ _ _ _ h (eq_nay _ _ _ _ _ g refl)))))

-- the law, both ways
pub heads_tied : (kind : ℕ) (xs : List ℕ) → Bytes xs
    → (head_rule kind xs ≡ true → take (head_size kind) xs ≡ head_in kind xs) × (take (head_size kind) xs ≡ head_in kind xs → head_rule kind xs ≡ true)
heads_tied kind xs b = (head_begins kind xs b, head_made kind xs)
