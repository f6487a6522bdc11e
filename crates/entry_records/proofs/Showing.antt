-- The entry that the fields of an `s263` record make, with a `bitr` and without. Assumes nothing.
use Prim.Native.Nat.{ℕ, ◌+◌, ◌≤◌, ◌<◌}
use native.Mathlib.Omega.{arith}
use mathlib.Core.Path.{◌≡◌, refl, sym, ◌∙◌}
use mathlib.Core.Bool.{true}
use mathlib.Core.List.{List, []}
use lib.ListN.{length, take}
use lib.Seq.{take_all}
use Rattle.wire.specs.Tests.{if_eq, if_le}
use Rattle.wire.specs.Numbers.{bytes_on, bytes, word}
use Rattle.codes.specs.Codes.{S263, BITR}
use Rattle.wire.proofs.Tests.{eq_yea, eq_nay}
use Rattle.wire.proofs.Numbers.{word_bytes, word_out}
use Rattle.entry_heads.specs.Heads.{box_header, common_head, visual_start, visual_head}
use Rattle.entry_rules.proofs.Picture.{PictureAt, RatedAt}
use Rattle.entry_records.specs.declared.field.H263.{H263}
use Rattle.entry_records.specs.Fields.{rates_in, h263_in, h263_rule}
use Rattle.entry_records.specs.Texts.{plain_text, rated_text}
use Rattle.entry_records.proofs.Lengths.{plain_length, rated_length}
use Rattle.entry_records.proofs.Fitting.{Rated, Plain}
use Rattle.entry_records.proofs.Starting.{picture_words, picture_at, picture_back}

-- a picture's text that meets its rule and holds its fields
pub record Shows (n : ℕ) (f : H263) (xs : List ℕ) : Type 0 where
  pub code : word 4 xs 4 ≡ S263
  pub start : PictureAt n xs
  pub back : h263_in xs ≡ f

module _ (f : H263) (a : h263_rule f ≡ true) (n : ℕ) (h : n < 100) (m : 15 ≤ n) (xs : List ℕ) (t : take 101 xs ≡ plain_text (86 + n) n f) (l : length xs ≡ 86 + n) where
  shows : rates_in xs ≡ f.rates → Shows n f xs
  shows r = record { code = (picture_words f a n h xs t l m).code; start = picture_at f a n h xs t l m; back = picture_back f a n h xs t l m r }

module _ (f : H263) (a : h263_rule f ≡ true) where
  pub plain_shows : Plain f.rates → Shows 15 f (plain_text 101 15 f)
  plain_shows r =
      let l = plain_length 101 15 f in
      let c : if_eq (length (plain_text 101 15 f)) 117 1 0 ≡ f.rates.given = sym (eq_nay _ _ _ _ _ (λ e. omega arith) r.flag) in
      let v : word 4 (plain_text 101 15 f) 109 ≡ f.rates.average = word_out 4 _ 109 (omega arith) ∙ sym r.average in
      let x : word 4 (plain_text 101 15 f) 113 ≡ f.rates.maximum = word_out 4 _ 113 (omega arith) ∙ sym r.maximum in
      shows f a 15 (omega arith) (omega arith) _ (take_all 101 _ (rw plain_length (omega arith))) l (rw (c, v, x))

  module _ (r : Rated f.rates) where
    start : take 101 (rated_text f) ≡ plain_text 117 31 f
    unfolding rated_text plain_text visual_head visual_start common_head box_header bytes bytes_on
    start = refl

    rates : (word 4 (rated_text f) 101 ≡ 16) × (word 4 (rated_text f) 105 ≡ BITR) × (word 4 (rated_text f) 109 ≡ f.rates.average) × (word 4 (rated_text f) 113 ≡ f.rates.maximum)
    unfolding rated_text plain_text visual_head visual_start common_head box_header bytes bytes_on word if_le
    rates = (refl, refl, word_bytes 4 f.rates.average [] r.average, word_bytes 4 f.rates.maximum [] r.maximum)

    pub rated_shows : Shows 31 f (rated_text f)
    rated_shows =
        let c : if_eq (length (rated_text f)) 117 1 0 ≡ f.rates.given = sym (eq_yea _ _ _ _ _ (rated_length f) r.flag) in
        shows f a 31 (omega arith) (omega arith) _ start (rated_length f) (rw (c, rates.2, rates.3))

    pub rated_at : RatedAt (rated_text f)
    rated_at = record { start = rated_shows.start; span = rates.0; code = rates.1 }
