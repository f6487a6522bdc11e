-- `samr` and `sawb` entries, by what stands where. Assumes nothing.
use Prim.Native.Nat.{ℕ}
use native.Mathlib.Omega.{arith}
use mathlib.Core.Path.{◌≡◌, refl, sym, ◌∙◌}
use mathlib.Core.Bool.{true}
use mathlib.Core.List.{List}
use mathlib.Core.Logic.{◌⊎◌, ⊎_elim}
use lib.ListN.{length, drop, length-drop}
use Rattle.wire.specs.Tests.{if_eq}
use Rattle.wire.specs.Numbers.{word}
use Rattle.codes.specs.Codes.{SOUN, DAMR}
use Rattle.wire.proofs.Tests.{eq_yea, eq_nay}
use Rattle.wire.proofs.Clauses.{is_eq_lem, eq_is, holds, done, clause}
use Rattle.wire.proofs.Numbers.{word_drop}
use Rattle.release.specs.declared.Release.{Release}
use Rattle.entry_heads.specs.Kinds.{SamrKind, SawbKind, handler_of}
use Rattle.entry_heads.specs.Heads.{audio_rule}
use Rattle.entry_heads.proofs.Heading.{audio_size, audio_rule_lem}
use Rattle.std.specs.Prelude.{Option}
use Rattle.entry_rules.specs.declared.entry.Around.{Around}
use Rattle.entry_rules.specs.Decoders.{frames_rule, damr_rule, record_rule}
use Rattle.entry_rules.specs.Entries.{around_rule, inside_rule, rule_as}
use Rattle.entry_rules.proofs.Judging.{rule_met, rule_is, inside_record, box_met, box_is}

-- the kinds of speech
abbrev pub Spoken : ℕ → Type 0
Spoken kind = (kind ≡ SamrKind) ⊎ (kind ≡ SawbKind)

-- a head, and a `damr` behind it
pub record SpeechAt (kind : ℕ) (release : Release) (xs : List ℕ) : Type 0 where
  pub long : length xs ≡ 53
  pub span : word 4 xs 0 ≡ 53
  pub head : audio_rule xs ≡ true
  pub inner : word 4 xs 36 ≡ 17
  pub code : word 4 xs 40 ≡ DAMR
  pub frames : frames_rule kind release (word 2 xs 49) (word 1 xs 51) (word 1 xs 52) ≡ true

module _ (kind : ℕ) (release : Release) (xs : List ℕ) (s : Spoken kind) where
  soun : handler_of kind ≡ SOUN
  unfolding handler_of if_eq
  soun = ⊎_elim (λ e. rw e) (λ e. rw e) s

  damr : record_rule kind release (drop 36 xs) ≡ damr_rule kind release (drop 36 xs)
  unfolding record_rule
  damr = ⊎_elim (λ e. sym (eq_yea _ _ _ _ _ e refl)) (λ e. sym (eq_nay _ _ _ _ _ (λ f. omega arith) (eq_yea _ _ _ _ _ e refl))) s

  -- what follows the head
  inside : inside_rule kind release (drop 36 xs) ≡ damr_rule kind release (drop 36 xs)
  inside = inside_record kind release (drop 36 xs) (⊎_elim (λ e. omega arith) (λ e. omega arith) s) (⊎_elim (λ e. omega arith) (λ e. omega arith) s) ∙ damr

  module _ (around : Option Around) where
    pub speech_met : rule_as kind around release xs ≡ true → SpeechAt kind release xs
    unfolding damr_rule
    speech_met e =
        let m = rule_met kind around release xs e in
        let d = sym inside ∙ (rw (audio_size kind soun) at m.inside) in
        let b = box_met DAMR (drop 36 xs) (clause 0 _ d) in
        let l = eq_is _ _ (clause 1 _ d) in
        let n : length xs ≡ 53 = omega (arith, length-drop 36 xs) in
        record {
          long = n;
          span = m.span ∙ n;
          head = sym (audio_rule_lem kind soun xs) ∙ m.head;
          inner = sym (word_drop 4 36 xs 0) ∙ b.0 ∙ l;
          code = sym (word_drop 4 36 xs 4) ∙ b.1;
          frames = rw (word_drop 2 36 xs 13, word_drop 1 36 xs 15, word_drop 1 36 xs 16) at (clause 2 _ d);
        }

    pub speech_is : SpeechAt kind release xs → around_rule around kind xs ≡ true → rule_as kind around release xs ≡ true
    unfolding damr_rule
    speech_is p f =
        let n : length (drop 36 xs) ≡ 17 = rw (length-drop, p.long) in
        let b = box_is DAMR (drop 36 xs) (word_drop 4 36 xs 0 ∙ p.inner ∙ sym n) (word_drop 4 36 xs 4 ∙ p.code) in
        let w : frames_rule kind release (word 2 (drop 36 xs) 13) (word 1 (drop 36 xs) 15) (word 1 (drop 36 xs) 16) ≡ true = rw (word_drop 2 36 xs 13, word_drop 1 36 xs 15, word_drop 1 36 xs 16) p.frames in
        rule_is kind around release xs
        (record {
          span = p.span ∙ sym p.long;
          head = audio_rule_lem kind soun xs ∙ p.head;
          fits = f;
          inside = rw (audio_size kind soun) (inside ∙ sym (holds _ _ b (holds _ _ (is_eq_lem _ _ n) (holds _ _ w done))));
        })
