-- What is written is read as it was: the tree of the descriptors that values make. Assumes nothing.
use Prim.Native.Nat.{ℕ, ◌<◌}
use native.Mathlib.Omega.{arith}
use mathlib.Core.Path.{◌≡◌, refl, sym, ap, ◌∙◌}
use mathlib.Core.Bool.{true}
use mathlib.Core.List.{List, [], ◌++◌, append_assoc, append-nil}
use lib.ListN.{length, take, drop, length-append}
use lib.Seq.{take_at, drop_at}
use Rattle.wire.specs.Tests.{if_eq}
use Rattle.wire.specs.Numbers.{bytes}
use Rattle.wire.proofs.Clauses.{clause, lt_is}
use Rattle.wire.proofs.Numbers.{length_bytes_lem}
use Rattle.wire.proofs.Tests.{eq_or, eq_nay}
use Rattle.descriptors.specs.Lengths.{TOO_LONG}
use Rattle.descriptors.specs.Parts.{ES, CONFIGURATION, SPECIFIC, SL, TOP, holder, part_in, fixed_of, own_of, held_of}
use Rattle.descriptors.specs.Trees.{Tree, end, descriptor, tree}
use Rattle.descriptors.specs.Texts.{descriptor_text}
use Rattle.descriptors.proofs.Trees.{tree_end}
use Rattle.descriptors.proofs.Written.{head_span, tree_text}
use Rattle.esds.specs.declared.value.Values.{Values}
use Rattle.esds.specs.Texts.{specific_text, configuration_text, configuration_body, es_body, es_text, values_rule}

-- ---- values that fit

pub record Fine (v : Values) (s : List ℕ) : Type 0 where
  pub number : v.number < 65536
  pub object : v.object < 256
  pub stream : v.stream < 64
  pub buffer : v.buffer < 16777216
  pub maximum : v.maximum < 4294967296
  pub average : v.average < 4294967296
  pub specific : length s < TOO_LONG
  pub configuration : length (configuration_body v s) < TOO_LONG
  pub es : length (es_body v s) < TOO_LONG

pub values_fine : (v : Values) (s : List ℕ) → values_rule v s ≡ true → Fine v s
unfolding values_rule
values_fine v s e =
    record {
      number = lt_is _ _ (clause 0 _ e);
      object = lt_is _ _ (clause 1 _ e);
      stream = lt_is _ _ (clause 2 _ e);
      buffer = lt_is _ _ (clause 3 _ e);
      maximum = lt_is _ _ (clause 4 _ e);
      average = lt_is _ _ (clause 5 _ e);
      specific = lt_is _ _ (clause 7 _ e);
      configuration = lt_is _ _ (clause 8 _ e);
      es = lt_is _ _ (clause 9 _ e);
    }

-- ---- their tree

module _ (v : Values) (s : List ℕ) where
  abbrev pub specific_tree : Tree
  specific_tree = if_eq v.specific 0 end (descriptor SPECIFIC (head_span (length s)) s end end)

  abbrev pub sl_tree : Tree
  sl_tree = descriptor SL (head_span 1) (bytes 1 2) end end

  abbrev pub configuration_tree : Tree
  configuration_tree = descriptor CONFIGURATION (head_span (length (configuration_body v s))) (configuration_text v) specific_tree sl_tree

  abbrev pub es_tree : Tree
  es_tree = descriptor ES (head_span (length (es_body v s))) (bytes 2 v.number ++ bytes 1 0) configuration_tree end

  none_left : (k : ℕ) → tree k [] ≡ end
  none_left k = tree_end k [] refl

  specific_tree_lem : length s < TOO_LONG → tree CONFIGURATION (specific_text v s) ≡ specific_tree
  unfolding specific_text part_in holder fixed_of own_of held_of if_eq
  specific_tree_lem h =
      eq_or v.specific 0
      (λ z. rw z (none_left CONFIGURATION))
      (λ n.
      let a : specific_text v s ≡ descriptor_text SPECIFIC s = sym (eq_nay _ _ _ _ _ n refl) in
      let b : specific_tree ≡ descriptor SPECIFIC (head_span (length s)) s end end = sym (eq_nay _ _ _ _ _ n refl) in
      ap (tree CONFIGURATION) (a ∙ sym (append-nil _)) ∙ tree_text SPECIFIC s [] (omega arith) h CONFIGURATION ∙ rw (none_left SPECIFIC, none_left CONFIGURATION) (sym b))

  sl_tree_lem : tree ES (descriptor_text SL (bytes 1 2)) ≡ sl_tree
  unfolding part_in holder fixed_of own_of held_of if_eq
  sl_tree_lem =
      ap (tree ES) (sym (append-nil _)) ∙ tree_text SL (bytes 1 2) [] (omega arith) (omega (arith, length_bytes_lem 1 2)) ES ∙ rw (none_left SL, none_left ES, length_bytes_lem 1 2)

  pub length_own : length (configuration_text v) ≡ 13
  unfolding configuration_text
  length_own = simp (length-append, length_bytes_lem)

  configuration_tree_lem : Fine v s → tree ES (descriptor_text CONFIGURATION (configuration_body v s) ++ descriptor_text SL (bytes 1 2)) ≡ configuration_tree
  unfolding configuration_body part_in holder fixed_of own_of held_of if_eq
  configuration_tree_lem f =
      tree_text CONFIGURATION (configuration_body v s) (descriptor_text SL (bytes 1 2)) (omega arith) f.configuration ES
      ∙ rw (
        take_at (configuration_text v) (specific_text v s) 13 length_own,
        drop_at (configuration_text v) (specific_text v s) 13 length_own,
        specific_tree_lem f.specific,
        sl_tree_lem,
      )

  -- the own bytes of the ES descriptor
  abbrev pub front : List ℕ
  front = bytes 2 v.number ++ bytes 1 0

  pub length_front : length front ≡ 3
  length_front = simp (length-append, length_bytes_lem)

  body_is : es_body v s ≡ front ++ (descriptor_text CONFIGURATION (configuration_body v s) ++ descriptor_text SL (bytes 1 2))
  unfolding es_body
  body_is = append_assoc front (descriptor_text CONFIGURATION (configuration_body v s)) (descriptor_text SL (bytes 1 2))

  pub es_tree_lem : Fine v s → tree TOP (es_text v s) ≡ es_tree
  unfolding es_text part_in holder fixed_of own_of held_of if_eq
  es_tree_lem f =
      let a : take 3 (es_body v s) ≡ front = ap (take 3) body_is ∙ take_at front _ 3 length_front in
      let b : tree ES (drop 3 (es_body v s)) ≡ configuration_tree = ap (λ (xs : List ℕ). tree ES (drop 3 xs)) body_is ∙ ap (tree ES) (drop_at front _ 3 length_front) ∙ configuration_tree_lem f in
      ap (tree TOP) (sym (append-nil _)) ∙ tree_text ES (es_body v s) [] (omega arith) f.es TOP ∙ rw (a, b, none_left TOP)
