-- The fields that stand in a `samr` or `sawb` entry. Assumes nothing.
use Prim.Native.Nat.{ℕ}
use native.Mathlib.Omega.{arith}
use mathlib.Core.Path.{◌≡◌, refl, sym, ◌∙◌}
use mathlib.Core.Bool.{true}
use mathlib.Core.List.{List}
use mathlib.Core.Logic.{⊎_elim}
use lib.ListN.{take}
use lib.Seq.{take_all}
use Rattle.wire.specs.Numbers.{Bytes, word}
use Rattle.codes.specs.Codes.{DAMR}
use Rattle.wire.proofs.Clauses.{is_eq_lem, is_lt_lem, holds, done, one}
use Rattle.wire.proofs.Numbers.{word_fits}
use Rattle.wire.proofs.Putting.{grow}
use Rattle.release.specs.declared.Release.{Release}
use Rattle.entry_heads.specs.Kinds.{kind_of, code_of}
use Rattle.entry_heads.specs.Heads.{audio_head}
use Rattle.entry_heads.proofs.Coding.{kind_code}
use Rattle.entry_heads.proofs.Heading.{grow_header, audio_begins}
use Rattle.entry_rules.proofs.Speech.{Spoken, SpeechAt}
use Rattle.entry_records.specs.Fields.{amr_in, amr_rule}
use Rattle.entry_records.specs.Texts.{amr_text}

module _ (release : Release) (kind : ℕ) (xs : List ℕ) (b : Bytes xs) (s : Spoken kind) (k : kind_of (word 4 xs 4) ≡ kind) (p : SpeechAt kind release xs) where
  pub amr_read_rule : amr_rule release (amr_in kind xs) ≡ true
  unfolding amr_rule
  amr_read_rule =
      sym
      (holds _ _ (sym (⊎_elim (λ e. one 0 _ (is_eq_lem _ _ e)) (λ e. one 1 _ (is_eq_lem _ _ e)) s))
      (holds _ _ (is_lt_lem _ _ (word_fits 2 xs 14 b))
      (holds _ _ (is_lt_lem _ _ (word_fits 2 xs 32 b))
      (holds _ _ (is_lt_lem _ _ (word_fits 4 xs 44 b))
      (holds _ _ (is_lt_lem _ _ (word_fits 1 xs 48 b))
      (holds _ _ (is_lt_lem _ _ (word_fits 2 xs 49 b))
      (holds _ _ (is_lt_lem _ _ (word_fits 1 xs 51 b)) (holds _ _ (is_lt_lem _ _ (word_fits 1 xs 52 b)) (holds _ _ p.frames done)))))))))

  head : take 36 xs ≡ audio_head 53 (code_of kind) (word 2 xs 14) (word 2 xs 32)
  head =
      let c : word 4 xs 4 ≡ code_of kind = kind_code (word 4 xs 4) kind k (λ z. ⊎_elim (λ e. omega arith) (λ e. omega arith) s) in
      audio_begins xs b p.head ∙ rw (p.span, c)

  pub amr_again : amr_text (amr_in kind xs) ≡ xs
  unfolding amr_text
  amr_again =
      let l = p.long in
      sym
      (grow xs b 52 1 _ (omega arith) refl
      (grow xs b 51 1 _ (omega arith) refl
      (grow xs b 49 2 _ (omega arith) refl
      (grow xs b 48 1 _ (omega arith) refl
      (grow xs b 44 4 _ (omega arith) refl (grow_header xs b 36 17 DAMR (omega arith) p.inner p.code head))))))
      ∙ take_all 53 xs (omega arith)
