-- The tree of a part with no fuel in sight: its end, its loose bytes, and its first descriptor with what that holds and what follows. Assumes nothing.
use Prim.Native.Nat.{ℕ, zero, suc, ◌+◌, ◌-◌, ◌≤◌}
use native.Mathlib.Omega.{arith}
use native.Mathlib.Numerals.{add-one}
use mathlib.Core.Path.{◌≡◌, refl, sym, ap, ◌∙◌}
use mathlib.Core.List.{List, []}
use lib.ListN.{length, drop, length-take, length-drop}
use Rattle.wire.specs.Tests.{if_eq}
use Rattle.wire.proofs.Tests.{eq_yea, eq_nay, eq_any}
use Rattle.descriptors.specs.declared.descriptor.Descriptor.{Descriptor}
use Rattle.std.specs.Prelude.{Option, Some, None}
use Rattle.descriptors.specs.Parts.{fixed_of, part_in, own_of, held_of}
use Rattle.descriptors.specs.Trees.{contents, Tree, end, loose, descriptor, front_of, tree_at, tree_by, tree}
use Rattle.descriptors.proofs.Fronts.{Ends, ends}

-- ---- what a descriptor holds, and what follows it, is less

module _ {xs : List ℕ} {d : Descriptor} (s : Ends xs d) where
  pub contents_less : length (contents xs d) + 2 ≤ length xs
  contents_less = omega (arith, length-take (d.span - d.head) (drop d.head xs), length-drop d.head xs, s.least, s.inside, s.last)

  pub after_less : length (drop d.span xs) + 2 ≤ length xs
  after_less = omega (arith, length-drop d.span xs, s.least, s.inside, s.last)

pub held_less : (j : ℕ) (xs : List ℕ) → length (held_of j xs) ≤ length xs
unfolding held_of
held_less j xs = eq_any (λ (ys : List ℕ). length ys ≤ length xs) (fixed_of j) 0 [] (drop (fixed_of j) xs) (omega arith) (omega (arith, length-drop (fixed_of j) xs))

-- ---- enough fuel is enough

none : (n k : ℕ) (xs : List ℕ) → length xs ≡ 0 → tree_by n k xs ≡ end
unfolding tree_by
none zero k xs z = refl
none (suc n) k xs z = sym (eq_yea _ _ _ _ _ z refl)

enough : (n m k : ℕ) (xs : List ℕ) → length xs ≤ n → length xs ≤ m → tree_by n k xs ≡ tree_by m k xs
unfolding tree_by
enough zero m k xs h g = sym (none m k xs (omega arith))
enough (suc n) zero k xs h g = none (suc n) k xs (omega arith)
enough (suc n) (suc m) k xs h g = ap (λ (t : Tree). if_eq (length xs) 0 end t) (go (front_of xs) refl (λ j ys p q. enough n m j ys p q))
  where
    go : (f : Option Descriptor) → front_of xs ≡ f → ((j : ℕ) (ys : List ℕ) → length ys ≤ n → length ys ≤ m → tree_by n j ys ≡ tree_by m j ys)
        → tree_at (λ j ys. tree_by n j ys) k xs f ≡ tree_at (λ j ys. tree_by m j ys) k xs f
    go None e ih = refl
    go (Some d) e ih =
        let s = ends xs d e in
        let c = contents_less s in
        let l = held_less (part_in k d.tag) (contents xs d) in
        let a = after_less s in
        rw (
          ih (part_in k d.tag) (held_of (part_in k d.tag) (contents xs d)) (omega (arith, add-one n)) (omega (arith, add-one m)),
          ih k (drop d.span xs) (omega (arith, add-one n)) (omega (arith, add-one m)),
        )

fuelled : (n k : ℕ) (xs : List ℕ) → length xs ≤ n → tree_by n k xs ≡ tree k xs
unfolding tree
fuelled n k xs h = enough n (length xs) k xs h (omega arith)

-- ---- the tree

module _ (k : ℕ) (xs : List ℕ) where
  pub tree_end : length xs ≡ 0 → tree k xs ≡ end
  unfolding tree
  tree_end z = none (length xs) k xs z

  module _ (z : length xs ≡ 0 → ⊥) where
    opened : tree k xs ≡ tree_at (λ j ys. tree_by (length xs) j ys) k xs (front_of xs)
    unfolding tree_by
    opened = sym (fuelled (suc (length xs)) k xs (omega (arith, add-one (length xs)))) ∙ sym (eq_nay _ _ _ _ _ z refl)

    pub tree_loose : front_of xs ≡ None → tree k xs ≡ loose
    tree_loose e = opened ∙ rw e

  -- what stands in a descriptor
  abbrev pub within : Descriptor → List ℕ
  within d = held_of (part_in k d.tag) (contents xs d)

  pub tree_found : (d : Descriptor) → front_of xs ≡ Some d
      → tree k xs ≡ descriptor (part_in k d.tag) d.head (own_of (part_in k d.tag) (contents xs d)) (tree (part_in k d.tag) (within d)) (tree k (drop d.span xs))
  tree_found d e =
      let s = ends xs d e in
      let c = contents_less s in
      let a = after_less s in
      opened (λ z. omega arith)
      ∙ rw (
        e,
        fuelled (length xs) (part_in k d.tag) (within d) (omega (arith, held_less (part_in k d.tag) (contents xs d))),
        fuelled (length xs) k (drop d.span xs) (omega arith),
      )
