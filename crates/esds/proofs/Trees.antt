-- The tree that values make passes every test, and the values in it are the same. Assumes nothing.
use Prim.Native.Nat.{ℕ, ◌+◌, ◌*◌, ◌/◌}
use native.Mathlib.Omega.{arith}
use mathlib.Core.Path.{◌≡◌, refl, sym}
use mathlib.Core.Bool.{true}
use mathlib.Core.List.{List, [], ◌∷◌, ◌++◌}
use mathlib.Core.Logic.{◌⊎◌, ⊎_elim}
use lib.ListN.{length}
use Rattle.wire.specs.Tests.{if_eq, if_le}
use Rattle.wire.specs.Clauses.{is_eq, every, either}
use Rattle.wire.specs.Numbers.{bytes_on, bytes, word}
use Rattle.wire.proofs.Clauses.{is_eq_lem, holds, done}
use Rattle.wire.proofs.Numbers.{word_bytes, length_bytes_lem}
use Rattle.wire.proofs.Tests.{eq_yea, eq_nay}
use Rattle.descriptors.specs.Parts.{ES, CONFIGURATION, SPECIFIC, SL, fixed_of, own_fits}
use Rattle.descriptors.specs.Trees.{Tree, end, descriptor, first_head, all_fit, in_order, wanted_parts}
use Rattle.descriptors.proofs.Written.{head_span}
use Rattle.esds.specs.declared.value.Values.{Values}
use Rattle.esds.specs.Values.{configuration, sl, specific, values_by, given, values_in, kind_rule, fixed_by, fixed_in}
use Rattle.esds.specs.Texts.{configuration_text}
use Rattle.esds.proofs.Back.{Fine, specific_tree, es_tree, length_own, length_front}

-- what stands where in the own bytes of the decoder configuration
pub record ConfigurationWords (v : Values) (xs : List ℕ) : Type 0 where
  pub object : word 1 xs 0 ≡ v.object
  pub stream : word 1 xs 1 ≡ 4 * v.stream + 1
  pub buffer : word 3 xs 2 ≡ v.buffer
  pub maximum : word 4 xs 5 ≡ v.maximum
  pub average : word 4 xs 9 ≡ v.average

module _ (v : Values) (s : List ℕ) (f : Fine v s) where
  configuration_words : ConfigurationWords v (configuration_text v)
  unfolding configuration_text bytes bytes_on word if_le
  configuration_words =
      record {
        object = word_bytes 1 v.object [] f.object;
        stream = word_bytes 1 (4 * v.stream + 1) [] (omega (arith, f.stream));
        buffer = word_bytes 3 v.buffer [] f.buffer;
        maximum = word_bytes 4 v.maximum [] f.maximum;
        average = word_bytes 4 v.average [] f.average;
      }

  number_word : word 2 (bytes 2 v.number ++ bytes 1 0) 0 ≡ v.number
  number_word = word_bytes 2 v.number (bytes 1 0) f.number

  flags_word : word 1 (bytes 2 v.number ++ bytes 1 0) 2 ≡ 0
  unfolding bytes bytes_on word if_le
  flags_word = refl

  predefined_word : word 1 (bytes 1 2) 0 ≡ 2
  unfolding bytes bytes_on word if_le
  predefined_word = refl

  -- ---- by whether specific information is there

  module _ (g : (v.specific ≡ 0) ⊎ (v.specific ≡ 1)) where
    by_specific : (P : Tree → ℕ → Type 0) → P end 0 → P (descriptor SPECIFIC (head_span (length s)) s end end) 1 → P (specific_tree v s) v.specific
    unfolding if_eq
    by_specific P a b = ⊎_elim (λ z. rw z a) (λ z. rw z b) g

    pub given_back : given (es_tree v s) ≡ v.specific
    unfolding given specific
    given_back = by_specific (λ t n. if_eq (first_head t) 0 0 1 ≡ n) (sym (eq_yea _ _ _ _ _ refl refl)) (sym (eq_nay _ _ _ _ _ (λ z. omega arith) refl))

    pub values_back : values_in v.kind (es_tree v s) ≡ v
    unfolding values_in values_by configuration
    values_back =
        let w = configuration_words in
        let q : (4 * v.stream + 1) / 4 ≡ v.stream = omega arith in
        rw (number_word, w.object, w.stream, w.buffer, w.maximum, w.average, given_back, q)

    pub fits_back : all_fit (es_tree v s) ≡ true
    unfolding all_fit own_fits fixed_of every if_eq is_eq
    fits_back =
        let a : all_fit (specific_tree v s) ≡ true = by_specific (λ t n. all_fit t ≡ true) refl refl in
        rw (length_front v s, length_own v s, length_bytes_lem 1 2, a)

    pub order_back : wanted_parts (in_order (es_tree v s)) ≡ true
    unfolding in_order wanted_parts either if_eq is_eq
    order_back = by_specific (λ t n. wanted_parts (ES ∷ ((CONFIGURATION ∷ (in_order t ++ (SL ∷ []))) ++ [])) ≡ true) refl refl

    pub fixed_back : kind_rule v ≡ true → fixed_in (es_tree v s) v ≡ true
    unfolding fixed_in fixed_by configuration sl
    fixed_back k =
        let w = configuration_words.stream in
        sym
        (holds _ _ (is_eq_lem _ _ flags_word) (holds _ _ (is_eq_lem _ _ (rw w (omega arith))) (holds _ _ (is_eq_lem _ _ (rw w (omega arith)))
        (holds _ _ (is_eq_lem _ _ predefined_word) (holds _ _ k done)))))
