-- The first descriptor of a part: what code gives of it, and of none. Assumes nothing.
use Prim.Native.Nat.{ℕ}
use native.Mathlib.Omega.{arith}
use mathlib.Core.Path.{◌≡◌, refl, sym, ap, ◌∙◌}
use mathlib.Core.List.{List, []}
use mathlib.Core.Logic.{⊎_elim}
use lib.ListN.{length, drop}
use Rattle.wire.specs.Tests.{if_eq}
use Rattle.wire.proofs.Tests.{eq_nay, eq_or, eq_ways}
use Rattle.descriptors.specs.declared.descriptor.Descriptor.{Descriptor}
use Rattle.std.specs.Prelude.{Option, Some, None}
use Rattle.descriptors.specs.Parts.{ES, CONFIGURATION, TOP, OTHER, holder, part_in, holding, fixed_of, own_of, held_of}
use Rattle.descriptors.specs.Trees.{Tree, end, loose, front_of, contents, tree, first_head, first_own, first_held, after_first}
use Rattle.descriptors.proofs.Fronts.{Ends, ends}
use Rattle.descriptors.proofs.Parts.{held_none}
use Rattle.descriptors.proofs.Trees.{tree_end, tree_loose, tree_found}

-- ---- of the descriptors in a part only one kind holds others

part_holder : (k tag j : ℕ) → part_in k tag ≡ j → (j ≡ OTHER → ⊥) → holder j ≡ k
unfolding part_in
part_holder k tag j e z = ⊎_elim (λ t. rw (sym t.1) t.0) (λ t. absurd (z (sym t.1))) (eq_ways (holder tag) k tag OTHER j e)

holds_es : (k tag : ℕ) → part_in k tag ≡ ES → holding k ≡ ES
unfolding holder holding if_eq
holds_es k tag e = let q : k ≡ TOP = sym (part_holder k tag ES e (λ z. omega arith)) in rw q

holds_configuration : (k tag : ℕ) → part_in k tag ≡ CONFIGURATION → holding k ≡ CONFIGURATION
unfolding holder holding if_eq
holds_configuration k tag e = let q : k ≡ ES = sym (part_holder k tag CONFIGURATION e (λ z. omega arith)) in rw q

pub held_holding : (k tag : ℕ) (xs : List ℕ) → tree (holding k) (held_of (part_in k tag) xs) ≡ tree (part_in k tag) (held_of (part_in k tag) xs)
unfolding fixed_of
held_holding k tag xs =
    let j = part_in k tag in
    eq_or j ES (λ e. rw (holds_es k tag e, e))
    (λ m. eq_or j CONFIGURATION (λ e. rw (holds_configuration k tag e, e))
    (λ n.
    let z : [] ≡ held_of j xs = held_none j xs (eq_nay _ _ _ _ _ m (eq_nay _ _ _ _ _ n refl)) refl in
    rw (sym z) (tree_end (holding k) [] refl ∙ sym (tree_end j [] refl))))

-- ---- one that is there

module _ (k : ℕ) (xs : List ℕ) {f : Option Descriptor} {d : Descriptor} (e : f ≡ front_of xs) (g : f ≡ Some d) where
  at_front : front_of xs ≡ Some d
  at_front = sym e ∙ g

  pub first_ends : Ends xs d
  first_ends = ends xs d at_front

  pub first_head_lem : d.head ≡ first_head (tree k xs)
  first_head_lem = sym (ap first_head (tree_found k xs d at_front))

  pub first_own_lem : {j : ℕ} {r : List ℕ} → j ≡ part_in k d.tag → r ≡ own_of j (contents xs d) → r ≡ first_own (tree k xs)
  first_own_lem p q = q ∙ rw p (sym (ap first_own (tree_found k xs d at_front)))

  pub first_held_lem : {j : ℕ} {r : List ℕ} → j ≡ part_in k d.tag → r ≡ held_of j (contents xs d) → tree (holding k) r ≡ first_held (tree k xs)
  first_held_lem p q = rw (q, p) (held_holding k d.tag (contents xs d) ∙ sym (ap first_held (tree_found k xs d at_front)))

  pub after_first_lem : {r : List ℕ} → r ≡ drop d.span xs → tree k r ≡ after_first (tree k xs)
  after_first_lem q = rw q (sym (ap after_first (tree_found k xs d at_front)))

-- ---- none

module _ (k : ℕ) (xs : List ℕ) {f : Option Descriptor} (e : f ≡ front_of xs) (g : f ≡ None) where
  -- what is the same of no descriptor and of loose bytes
  pub not_there : {A : Type 0} (h : Tree → A) → h end ≡ h loose → h (tree k xs) ≡ h end
  not_there h q =
      eq_or (length xs) 0 (λ z. ap h (tree_end k xs z)) (λ z. ap h (tree_loose k xs z (sym e ∙ g)) ∙ sym q)
