-- `s263` entries, by what stands where. Assumes nothing.
use Prim.Native.Nat.{ℕ, ◌+◌, ◌-◌}
use native.Mathlib.Omega.{arith}
use mathlib.Core.Path.{◌≡◌, refl, sym, ap, ◌∙◌}
use mathlib.Core.Bool.{true}
use mathlib.Core.List.{List}
use mathlib.Core.Logic.{◌⊎◌, inl, inr}
use lib.ListN.{length, drop, length-drop}
use Rattle.wire.specs.Tests.{if_eq}
use Rattle.wire.specs.Numbers.{word}
use Rattle.codes.specs.Codes.{VIDE, D263, BITR}
use Rattle.wire.proofs.Clauses.{is_eq_lem, eq_is, holds, done, clause, one, of_two}
use Rattle.wire.proofs.Numbers.{word_drop}
use Rattle.release.specs.declared.Release.{Release}
use Rattle.entry_heads.specs.Kinds.{S263Kind, handler_of}
use Rattle.entry_heads.specs.Heads.{visual_rule}
use Rattle.entry_heads.proofs.Heading.{visual_size, visual_rule_lem}
use Rattle.std.specs.Prelude.{Option}
use Rattle.entry_rules.specs.declared.entry.Around.{Around}
use Rattle.entry_rules.specs.Decoders.{box_rule, rated_rule, d263_rule, record_rule}
use Rattle.entry_rules.specs.Entries.{around_rule, inside_rule, rule_as}
use Rattle.entry_rules.proofs.Judging.{Met, rule_met, rule_is, inside_record, box_met, box_is}

-- a head, and behind it the start of a `d263` of n bytes
pub record PictureAt (n : ℕ) (xs : List ℕ) : Type 0 where
  pub long : length xs ≡ 86 + n
  pub span : word 4 xs 0 ≡ 86 + n
  pub head : visual_rule S263Kind xs ≡ true
  pub inner : word 4 xs 86 ≡ n
  pub code : word 4 xs 90 ≡ D263

-- with a `bitr` that ends it
pub record RatedAt (xs : List ℕ) : Type 0 where
  pub start : PictureAt 31 xs
  pub span : word 4 xs 101 ≡ 16
  pub code : word 4 xs 105 ≡ BITR

module _ (release : Release) (xs : List ℕ) where
  vide : handler_of S263Kind ≡ VIDE
  unfolding handler_of if_eq
  vide = refl

  inside : inside_rule S263Kind release (drop 86 xs) ≡ d263_rule (drop 86 xs)
  unfolding record_rule if_eq
  inside = inside_record S263Kind release (drop 86 xs) (omega arith) (omega arith)

  -- a word behind the start of the `d263`
  further : (at : ℕ) → word 4 (drop 15 (drop 86 xs)) at ≡ word 4 xs (86 + (15 + at))
  further at = word_drop 4 15 (drop 86 xs) at ∙ word_drop 4 86 xs (15 + at)

  module _ (around : Option Around) where
    -- the start, from the rule
    start_met : (n : ℕ) → Met S263Kind around release xs → length (drop 86 xs) ≡ 15 + n → box_rule D263 (drop 86 xs) ≡ true → PictureAt (15 + n) xs
    start_met n m l e =
        let b = box_met D263 (drop 86 xs) e in
        let k : length xs ≡ 86 + (15 + n) = omega (arith, length-drop 86 xs) in
        record {
          long = k;
          span = m.span ∙ k;
          head = sym (visual_rule_lem S263Kind vide xs) ∙ m.head;
          inner = sym (word_drop 4 86 xs 0) ∙ b.0 ∙ l;
          code = sym (word_drop 4 86 xs 4) ∙ b.1;
        }

    pub picture_met : rule_as S263Kind around release xs ≡ true → PictureAt 15 xs ⊎ RatedAt xs
    unfolding d263_rule rated_rule
    picture_met e =
        let m = rule_met S263Kind around release xs e in
        let d = sym inside ∙ (rw (visual_size S263Kind vide) at m.inside) in
        of_two _ _ (clause 1 _ d) (λ w. inl (start_met 0 m (eq_is _ _ w) (clause 0 _ d)))
        (λ w.
        let l = eq_is _ _ (clause 0 _ w) in
        let b = box_met BITR (drop 15 (drop 86 xs)) (clause 1 _ w) in
        inr
        (record {
          start = start_met 16 m l (clause 0 _ d);
          span = sym (further 0) ∙ b.0 ∙ (length-drop 15 (drop 86 xs) ∙ ap (λ (n : ℕ). n - 15) l);
          code = sym (further 4) ∙ b.1;
        }))

    module _ (f : around_rule around S263Kind xs ≡ true) where
      -- the rule, from the start and what follows it
      start_is : (n : ℕ) → PictureAt n xs → rated_rule (drop 86 xs) ≡ true → rule_as S263Kind around release xs ≡ true
      unfolding d263_rule
      start_is n p r =
          let l : length (drop 86 xs) ≡ n = rw (length-drop, p.long) (omega arith) in
          let b = box_is D263 (drop 86 xs) (word_drop 4 86 xs 0 ∙ p.inner ∙ sym l) (word_drop 4 86 xs 4 ∙ p.code) in
          rule_is S263Kind around release xs
          (record {
            span = p.span ∙ sym p.long;
            head = visual_rule_lem S263Kind vide xs ∙ p.head;
            fits = f;
            inside = rw (visual_size S263Kind vide) (inside ∙ sym (holds _ _ b (holds _ _ r done)));
          })

      pub picture_is : PictureAt 15 xs → rule_as S263Kind around release xs ≡ true
      unfolding rated_rule
      picture_is p = start_is 15 p (sym (one 0 _ (is_eq_lem _ _ (rw (length-drop, p.long)))))

      pub rated_is : RatedAt xs → rule_as S263Kind around release xs ≡ true
      unfolding rated_rule
      rated_is p =
          let l : length (drop 86 xs) ≡ 31 = rw (length-drop, p.start.long) in
          let k : length (drop 15 (drop 86 xs)) ≡ 16 = rw (length-drop, l) in
          let b = box_is BITR (drop 15 (drop 86 xs)) (further 0 ∙ p.span ∙ sym k) (further 4 ∙ p.code) in
          start_is 31 p.start (sym (one 1 _ (sym (holds _ _ (is_eq_lem _ _ l) (holds _ _ b done)))))
