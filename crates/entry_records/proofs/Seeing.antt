-- The fields that stand in an `s263` entry. Assumes nothing.
use Prim.Native.Nat.{ℕ, ◌+◌, ◌≤◌}
use native.Mathlib.Omega.{arith}
use mathlib.Core.Path.{◌≡◌, refl, sym, ◌∙◌}
use mathlib.Core.Bool.{true}
use mathlib.Core.List.{List}
use lib.ListN.{take}
use lib.Seq.{take_all}
use Rattle.wire.specs.Tests.{if_eq}
use Rattle.wire.specs.Numbers.{Bytes, word}
use Rattle.codes.specs.Codes.{S263, D263, BITR}
use Rattle.wire.proofs.Tests.{eq_yea, eq_nay}
use Rattle.wire.proofs.Clauses.{is_lt_lem, holds, done}
use Rattle.wire.proofs.Numbers.{word_fits, word_out}
use Rattle.wire.proofs.Putting.{grow}
use Rattle.entry_heads.specs.Kinds.{S263Kind, kind_of, code_of}
use Rattle.entry_heads.proofs.Coding.{kind_code}
use Rattle.entry_heads.proofs.Heading.{grow_header, visual_begins, name_zero}
use Rattle.entry_rules.proofs.Picture.{PictureAt, RatedAt}
use Rattle.entry_records.specs.Fields.{rates_in, h263_in, rates_rule, h263_rule}
use Rattle.entry_records.specs.Texts.{plain_text, rated_text, h263_text}
use Rattle.entry_records.proofs.Fitting.{Rated, Plain, rated_rule, plain_rule}

s263 : code_of S263Kind ≡ S263
unfolding code_of if_eq
s263 = refl

module _ (xs : List ℕ) (b : Bytes xs) where
  rule : rates_rule (rates_in xs) ≡ true → h263_rule (h263_in xs) ≡ true
  unfolding h263_rule
  rule r =
      sym
      (holds _ _ (is_lt_lem _ _ (word_fits 2 xs 14 b))
      (holds _ _ (is_lt_lem _ _ (word_fits 2 xs 32 b))
      (holds _ _ (is_lt_lem _ _ (word_fits 2 xs 34 b))
      (holds _ _ (is_lt_lem _ _ (word_fits 4 xs 94 b))
      (holds _ _ (is_lt_lem _ _ (word_fits 1 xs 98 b))
      (holds _ _ (is_lt_lem _ _ (word_fits 1 xs 99 b)) (holds _ _ (is_lt_lem _ _ (word_fits 1 xs 100 b)) (holds _ _ r done))))))))

  module _ (k : kind_of (word 4 xs 4) ≡ S263Kind) where
    -- up to the profile
    start : (n : ℕ) → 15 ≤ n → PictureAt n xs → take 101 xs ≡ plain_text (86 + n) n (h263_in xs)
    unfolding plain_text
    start n h p =
        let l = p.long in
        let c : word 4 xs 4 ≡ S263 = kind_code (word 4 xs 4) S263Kind k (λ z. omega arith) ∙ s263 in
        let z : word 32 xs 50 ≡ 0 = name_zero S263Kind xs (λ e. omega arith) p.head in
        grow xs b 100 1 _ (omega arith) refl
        (grow xs b 99 1 _ (omega arith) refl
        (grow xs b 98 1 _ (omega arith) refl
        (grow xs b 94 4 _ (omega arith) refl
        (grow_header xs b 86 n D263 (omega arith) p.inner p.code (rw (p.span, c, z) at (visual_begins xs b S263Kind p.head))))))

    module _ (p : PictureAt 15 xs) where
      plain : Plain (rates_in xs)
      plain =
          let l = p.long in
          record {
            flag = sym (eq_nay _ _ _ _ _ (λ e. omega arith) refl);
            average = word_out 4 xs 109 (omega arith);
            maximum = word_out 4 xs 113 (omega arith);
          }

      pub plain_again : (h263_rule (h263_in xs) ≡ true) × (h263_text (h263_in xs) ≡ xs)
      unfolding h263_text
      plain_again =
          let l = p.long in (
            rule (plain_rule (rates_in xs) plain),
            sym (eq_nay _ _ _ _ _ (λ e. omega (arith, plain.flag)) (sym (take_all 101 xs (omega arith)) ∙ start 15 (omega arith) p)),
          )

    module _ (p : RatedAt xs) where
      rated : Rated (rates_in xs)
      rated = record { flag = sym (eq_yea _ _ _ _ _ p.start.long refl); average = word_fits 4 xs 109 b; maximum = word_fits 4 xs 113 b }

      pub rated_again : (h263_rule (h263_in xs) ≡ true) × (h263_text (h263_in xs) ≡ xs)
      unfolding h263_text rated_text
      rated_again =
          let l = p.start.long in (
            rule (rated_rule (rates_in xs) rated),
            sym
                (eq_yea _ _ _ _ _ rated.flag
                (sym (take_all 117 xs (omega arith))
                ∙ grow xs b 113 4 _ (omega arith) refl
                (grow xs b 109 4 _ (omega arith) refl (grow_header xs b 101 16 BITR (omega arith) p.span p.code (start 31 (omega arith) p.start))))),
          )
