-- Rules 6 and 7: acceptance without places, and what keeps them. Assumes nothing.
use Prim.Native.Nat.{ℕ, suc}
use native.Mathlib.Omega.{arith}
use mathlib.Core.Path.{◌≡◌, refl, sym, ◌∙◌}
use mathlib.Core.Bool.{true}
use mathlib.Core.List.{List}
use Rattle.wire.specs.Tests.{if_eq}
use Rattle.wire.specs.Numbers.{word}
use Rattle.codes.specs.Codes.{STBL, STSD, STTS, STSC, STSZ, STCO}
use Rattle.boxes.specs.Boxes.{boxes}
use Rattle.boxes.specs.Seek.{find}
use Rattle.boxes.specs.Containers.{kind_in, parent}
use Rattle.boxes.specs.Kin.{Leaf, Kin}
use Rattle.boxes.proofs.Kin.{kin_find}
use Rattle.sample_tables.specs.Tables.{table_form}
use Rattle.sample_tables.proofs.Rules.{seven_same}
use Rattle.rule.specs.Rule.{all_in}
use Rattle.rule.proofs.Keeping.{keep, kept_at}
use Rattle.rule_tracks.specs.Six.{table_in, six_rule}
use Rattle.rule_tracks.specs.Seven.{seven_holds, seven_in, seven_rule}

-- rule 6, where the lengths of tables are kept
pub kin_6 : (G : Leaf) → ((k c : ℕ) (b b' : List ℕ) → kind_in k c ≡ 0 → G k c b b' → table_in k c b ≡ true → table_in k c b' ≡ true)
    → (d k : ℕ) (xs ys : List ℕ) → Kin G d k xs ys → all_in six_rule d k xs ≡ true → all_in six_rule d k ys ≡ true
kin_6 G h = keep six_rule six_rule G h (λ d k xs ys a q. q) (λ xs q. q)

-- rule 7, where three tables, the length of the fourth and the entry count are kept
pub record Tables (G : Leaf) : Type 0 where
  pub stts : (b b' : List ℕ) → G STBL STTS b b' → b ≡ b'
  pub stsc : (b b' : List ℕ) → G STBL STSC b b' → b ≡ b'
  pub stsz : (b b' : List ℕ) → G STBL STSZ b b' → b ≡ b'
  pub stco : (b b' : List ℕ) → G STBL STCO b b' → (word 4 b 4 ≡ word 4 b' 4) × (table_form 4 b ≡ table_form 4 b')
  pub stsd : (b b' : List ℕ) → G STBL STSD b b' → word 4 b 4 ≡ word 4 b' 4

module _ (G : Leaf) (t : Tables G) where
  module _ (d : ℕ) (xs ys : List ℕ) (a : Kin G (suc d) STBL xs ys) where
    -- a table that is kept is found as it was
    pub same_table : (c : ℕ) → (c ≡ 0 → ⊥) → kind_in STBL c ≡ 0 → ((b b' : List ℕ) → G STBL c b b' → b ≡ b') → find c (boxes xs) ≡ find c (boxes ys)
    same_table c z o h = kin_find G d STBL xs ys a c z (λ u v. u ≡ v) refl o h 0

    seven_kept : seven_holds (boxes xs) ≡ seven_holds (boxes ys)
    unfolding seven_holds kind_in parent if_eq
    seven_kept =
        rw (
          same_table STTS (λ z. omega arith) refl t.stts,
          same_table STSC (λ z. omega arith) refl t.stsc,
          same_table STSZ (λ z. omega arith) refl t.stsz,
          kin_find G d STBL xs ys a STSD (λ z. omega arith) (λ u v. word 4 u 4 ≡ word 4 v 4) refl refl t.stsd 0,
        )
        (seven_same _ _ _ _ (find STCO (boxes xs)) (find STCO (boxes ys))
        (kin_find G d STBL xs ys a STCO (λ z. omega arith) (λ u v. word 4 u 4 ≡ word 4 v 4) refl refl (λ b b' g. (t.stco b b' g).0) 0))

  in_kept : (d k : ℕ) (xs ys : List ℕ) → Kin G (suc d) k xs ys → seven_in k xs ≡ true → seven_in k ys ≡ true
  unfolding seven_in
  in_kept d k xs ys = kept_at G STBL (λ zs. seven_holds (boxes zs)) (λ zs. seven_holds (boxes zs)) d k xs ys (λ a q. sym (seven_kept d xs ys a) ∙ q)

  pub kin_7 : (d k : ℕ) (xs ys : List ℕ) → Kin G d k xs ys → all_in seven_rule d k xs ≡ true → all_in seven_rule d k ys ≡ true
  kin_7 = keep seven_rule seven_rule G (λ k c b b' o g q. q) in_kept (λ xs q. q)
