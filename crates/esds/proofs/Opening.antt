-- What is read of the descriptors of an `esds`, part by part. Assumes nothing.
use Prim.Native.Nat.{ℕ, ◌+◌}
use native.Mathlib.Omega.{arith}
use mathlib.Core.Path.{◌≡◌, refl, sym, ap, ◌∙◌}
use mathlib.Core.Bool.{Bool, true, false, not}
use mathlib.Core.List.{List, [], ◌∷◌}
use lib.ListN.{length}
use Rattle.wire.specs.Tests.{pick, if_eq}
use Rattle.wire.proofs.Tests.{eq_yea, eq_nay}
use Rattle.wire.specs.Clauses.{is_eq}
use Rattle.wire.proofs.Clauses.{is_eq_lem, not_eq}
use Rattle.descriptors.specs.declared.list.Reading.{Reading}
use Rattle.descriptors.specs.Parts.{TOP, ES, CONFIGURATION, SL, holding, fixed_of}
use Rattle.descriptors.specs.Trees.{Tree, tree, first_head, first_own, first_held, after_first, all_fit, in_order, wanted_parts}
use Rattle.descriptors.specs.Reading.{read_on}
use Rattle.descriptors.proofs.Orders.{read_fits, read_last, wanted_leads}
use Rattle.rule.specs.Results.{asked}
use Rattle.rule.specs.Results.ToWrite.{gives, refuses}
use Rattle.esds.specs.declared.value.Values.{Values}
use Rattle.esds.specs.declared.value.Esds.{Esds}
use Rattle.esds.specs.Values.{configuration, sl, specific, values_by, given, values_in, specific_at, esds_in, fixed_by, fixed_in}
use Rattle.esds.specs.Calls.{esds_numbers, tree_result}

module _ (xs held : List ℕ) (a : tree (holding TOP) held ≡ first_held (tree TOP xs)) where
  -- what the ES descriptor holds
  in_es : tree ES held ≡ first_held (tree TOP xs)
  unfolding holding if_eq
  in_es = a

  configuration_is : first_own (tree ES held) ≡ configuration (tree TOP xs)
  unfolding configuration
  configuration_is = ap first_own in_es

  pub fixed_read : (v : Values) (after : List ℕ) {es own last : List ℕ} {r : Bool} → es ≡ first_own (tree TOP xs) → own ≡ first_own (tree ES held)
      → ((k : ℕ) → tree k after ≡ after_first (tree k held)) → last ≡ first_own (tree ES after) → r ≡ fixed_by es own last v
      → r ≡ fixed_in (tree TOP xs) v
  unfolding fixed_in sl
  fixed_read v after {last = last} p q f g e =
      let s : last ≡ first_own (after_first (first_held (tree TOP xs))) = g ∙ ap first_own (f ES) ∙ ap (λ (t : Tree). first_own (after_first t)) in_es in
      e ∙ rw (p, q, configuration_is, s)

  -- what the decoder configuration holds
  module _ (inner : List ℕ) (b : tree (holding ES) inner ≡ first_held (tree ES held)) where
    in_configuration : tree CONFIGURATION inner ≡ specific (tree TOP xs)
    unfolding holding if_eq specific
    in_configuration = b ∙ ap first_held in_es

    module _ (kind p : ℕ) {es own : List ℕ} {head : ℕ} (l : (k : ℕ) → head ≡ first_head (tree k inner)) (q : es ≡ first_own (tree TOP xs)) (r : own ≡ first_own (tree ES held)) where
      head_is : head ≡ first_head (specific (tree TOP xs))
      head_is = l CONFIGURATION ∙ ap first_head in_configuration

      -- it holds none
      pub esds_plain : {v : Values} → head ≡ 0 → v ≡ values_by kind es own 0 → record { values = v; place = 0; span = 0 } ≡ esds_in kind p (tree TOP xs)
      unfolding esds_in values_in given if_eq
      esds_plain z u =
          let y : given (tree TOP xs) ≡ 0 = sym (eq_yea _ _ _ _ _ (sym head_is ∙ z) refl) in
          rw (u, q, r, configuration_is, y)

      -- it holds the specific information
      pub esds_given : {v : Values} → (head ≡ 0 → ⊥) → v ≡ values_by kind es own 1 → {h h1 : ℕ} {info : List ℕ} → ((k : ℕ) → h ≡ first_head (tree k xs)) → ((k : ℕ) → h1 ≡ first_head (tree k held))
          → info ≡ first_own (tree CONFIGURATION inner) → record { values = v; place = p + h + 3 + h1 + 13 + head; span = length info } ≡ esds_in kind p (tree TOP xs)
      unfolding esds_in values_in given specific_at fixed_of if_eq
      esds_given n u {h = h} {h1 = h1} {info = info} i j w =
          let y : 1 ≡ given (tree TOP xs) = eq_nay _ _ _ _ _ (λ z. n (head_is ∙ z)) refl in
          let z : p + h + 3 + h1 + 13 + head ≡ p + specific_at (tree TOP xs) = omega (arith, i TOP, j ES, ap first_head in_es, head_is) in
          let o : info ≡ first_own (specific (tree TOP xs)) = w ∙ ap first_own in_configuration in
          rw (u, q, r, z, o, configuration_is, ← y)

-- ---- the answer

-- a field that was asked
pub fails_so : (t : Bool) → not t ≡ true → t ≡ false
fails_so false e = refl
fails_so true e = sym e

pub holds_so : (t : Bool) → not t ≡ false → t ≡ true
holds_so true e = refl
holds_so false e = sym e

all_or : (t : Bool) → pick t true false ≡ t
all_or true = refl
all_or false = refl

-- of values that were told, kind by kind of refusal
module _ (kind p : ℕ) (t : Tree) {r : Reading} (e : r ≡ read_on (record { fits = true; last = TOP }) t) where
  fits_is : r.fits ≡ all_fit t
  fits_is = ap (λ (s : Reading). s.fits) e ∙ read_fits _ t ∙ all_or (all_fit t)

  order_is : is_eq r.last SL ≡ wanted_parts (in_order t)
  order_is = ap (λ (s : Reading). is_eq s.last SL) e ∙ ap (λ (n : ℕ). is_eq n SL) (read_last _ t) ∙ wanted_leads (in_order t)

  pub loose_tree : r.fits ≡ false → refuses 50 0 ≡ tree_result kind p t
  unfolding tree_result asked
  loose_tree z = rw (sym fits_is ∙ z)

  module _ (f : r.fits ≡ true) where
    pub unwanted_tree : (r.last ≡ SL → ⊥) → refuses 51 0 ≡ tree_result kind p t
    unfolding tree_result asked
    unwanted_tree n = rw (sym fits_is ∙ f, ← order_is, not_eq _ _ n)

    module _ (l : r.last ≡ SL) {s : Esds} (q : s ≡ esds_in kind p t) {o : Bool} (w : o ≡ fixed_in t s.values) where
      asks : (b : Bool) → fixed_in t s.values ≡ b → tree_result kind p t ≡ asked ((52, b) ∷ []) (gives (esds_numbers (esds_in kind p t)))
      unfolding tree_result asked esds_in
      asks b z =
          let v : s.values ≡ values_in kind t = ap (λ (x : Esds). x.values) q in
          rw (sym fits_is ∙ f, ← order_is, is_eq_lem _ _ l, ← v, z)

      pub wrong_tree : o ≡ false → refuses 52 0 ≡ tree_result kind p t
      unfolding asked
      wrong_tree z = sym (asks _ (sym w ∙ z))

      pub right_tree : o ≡ true → gives (esds_numbers s) ≡ tree_result kind p t
      unfolding asked
      right_tree z = ap (λ (x : Esds). gives (esds_numbers x)) q ∙ sym (asks _ (sym w ∙ z))
