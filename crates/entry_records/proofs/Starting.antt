-- The entry that the fields of an `s263` record make, up to the profile. Assumes nothing.
use Prim.Native.Nat.{ℕ, ◌+◌, ◌≤◌, ◌<◌}
use native.Mathlib.Omega.{arith}
use mathlib.Core.Path.{◌≡◌, refl, sym, ap, ◌∙◌}
use mathlib.Core.Bool.{true}
use mathlib.Core.List.{List, []}
use lib.ListN.{length, take}
use lib.Seq.{take-take}
use Rattle.wire.specs.Tests.{if_le}
use Rattle.wire.specs.Numbers.{bytes_on, bytes, word}
use Rattle.codes.specs.Codes.{S263, D263}
use Rattle.wire.proofs.Clauses.{lt_is, clause}
use Rattle.wire.proofs.Numbers.{word_bytes, word_front}
use Rattle.entry_heads.specs.Kinds.{S263Kind}
use Rattle.entry_heads.specs.Heads.{box_header, common_head, visual_start, visual_head}
use Rattle.entry_heads.proofs.Heading.{visual_made}
use Rattle.entry_rules.proofs.Picture.{PictureAt}
use Rattle.entry_records.specs.declared.field.H263.{H263}
use Rattle.entry_records.specs.Texts.{plain_text}
use Rattle.entry_records.specs.Fields.{rates_in, h263_in, h263_rule}
use Rattle.entry_records.proofs.Lengths.{plain_length}

-- what stands where up to the profile
pub record PictureWords (n : ℕ) (f : H263) (xs : List ℕ) : Type 0 where
  pub span : word 4 xs 0 ≡ 86 + n
  pub code : word 4 xs 4 ≡ S263
  pub reference : word 2 xs 14 ≡ f.reference
  pub width : word 2 xs 32 ≡ f.width
  pub height : word 2 xs 34 ≡ f.height
  pub inner : word 4 xs 86 ≡ n
  pub d263 : word 4 xs 90 ≡ D263
  pub vendor : word 4 xs 94 ≡ f.vendor
  pub version : word 1 xs 98 ≡ f.version
  pub level : word 1 xs 99 ≡ f.level
  pub profile : word 1 xs 100 ≡ f.profile

module _ (f : H263) (a : h263_rule f ≡ true) where
  plain_front : (n : ℕ) → take 86 (plain_text (86 + n) n f) ≡ visual_head (86 + n) S263 f.reference f.width f.height (bytes 32 0)
  unfolding plain_text visual_head visual_start common_head box_header bytes bytes_on
  plain_front n = refl

  -- a text that begins so
  module _ (n : ℕ) (h : n < 100) (xs : List ℕ) (t : take 101 xs ≡ plain_text (86 + n) n f) (l : length xs ≡ 86 + n) (m : 15 ≤ n) where
    up : (w at : ℕ) → at + w ≤ 101 → word w xs at ≡ word w (plain_text (86 + n) n f) at
    up = word_front 101 xs (plain_text (86 + n) n f) t (plain_length (86 + n) n f)

    pub picture_words : PictureWords n f xs
    unfolding h263_rule plain_text visual_head visual_start common_head box_header bytes bytes_on word if_le
    picture_words =
        record {
          span = up 4 0 (omega arith) ∙ word_bytes 4 (86 + n) [] (omega arith);
          code = up 4 4 (omega arith);
          reference = up 2 14 (omega arith) ∙ word_bytes 2 f.reference [] (lt_is _ _ (clause 0 _ a));
          width = up 2 32 (omega arith) ∙ word_bytes 2 f.width [] (lt_is _ _ (clause 1 _ a));
          height = up 2 34 (omega arith) ∙ word_bytes 2 f.height [] (lt_is _ _ (clause 2 _ a));
          inner = up 4 86 (omega arith) ∙ word_bytes 4 n [] (omega arith);
          d263 = up 4 90 (omega arith);
          vendor = up 4 94 (omega arith) ∙ word_bytes 4 f.vendor [] (lt_is _ _ (clause 3 _ a));
          version = up 1 98 (omega arith) ∙ word_bytes 1 f.version [] (lt_is _ _ (clause 4 _ a));
          level = up 1 99 (omega arith) ∙ word_bytes 1 f.level [] (lt_is _ _ (clause 5 _ a));
          profile = up 1 100 (omega arith) ∙ word_bytes 1 f.profile [] (lt_is _ _ (clause 6 _ a));
        }

    front : take 86 xs ≡ visual_head (86 + n) S263 f.reference f.width f.height (bytes 32 0)
    front = sym (take-take 86 101 xs (omega arith)) ∙ ap (take 86) t ∙ plain_front n

    pub picture_at : PictureAt n xs
    picture_at =
        let w = picture_words in
        record {
          long = l;
          span = w.span;
          head = visual_made xs (86 + n) S263 f.reference S263Kind 0 (λ e. refl) f.width f.height front;
          inner = w.inner;
          code = w.d263;
        }

    -- its fields, where its rates are those of the record
    pub picture_back : rates_in xs ≡ f.rates → h263_in xs ≡ f
    picture_back r = let w = picture_words in rw (w.reference, w.width, w.height, w.vendor, w.version, w.level, w.profile, r)
