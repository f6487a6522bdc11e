-- Reading descriptor by descriptor. Assumes nothing.
use Prim.Native.Nat.{ℕ}
use mathlib.Core.Path.{◌≡◌, refl, sym}
use mathlib.Core.List.{List}
use lib.ListN.{length, drop}
use mathlib.Core.Bool.{false}
use Rattle.descriptors.specs.declared.descriptor.Descriptor.{Descriptor}
use Rattle.std.specs.Prelude.{Some, None}
use Rattle.descriptors.specs.declared.list.Reading.{Reading}
use Rattle.descriptors.specs.Parts.{part_in, own_of, held_of}
use Rattle.descriptors.specs.Trees.{Tree, descriptor, contents, front_of, tree}
use Rattle.descriptors.specs.Reading.{met, read_on}
use Rattle.descriptors.proofs.Trees.{tree_end, tree_loose, tree_found}

-- ---- what is left

read_node : (r : Reading) (j h : ℕ) (own : List ℕ) (held next : Tree) → read_on r (descriptor j h own held next) ≡ read_on (read_on (met r j own) held) next
unfolding read_on
read_node r j h own held next = refl

module _ (k : ℕ) (xs : List ℕ) (r : Reading) where
  -- after one descriptor
  pub read_more : {d : Descriptor} {j : ℕ} {own held : List ℕ} {m s : Reading} → front_of xs ≡ Some d → j ≡ part_in k d.tag
      → own ≡ own_of j (contents xs d) → m ≡ met r j own → held ≡ held_of j (contents xs d) → s ≡ read_on m (tree j held)
      → read_on r (tree k xs) ≡ read_on s (tree k (drop d.span xs))
  read_more {d} w e g h i l = rw (tree_found k xs d w, read_node, sym e, sym g, sym h, sym i, sym l)

  pub read_loose : (length xs ≡ 0 → ⊥) → front_of xs ≡ None → record { fits = false; last = r.last } ≡ read_on r (tree k xs)
  unfolding read_on
  read_loose z u = rw (tree_loose k xs z u)

  pub read_all : length xs ≡ 0 → r ≡ read_on r (tree k xs)
  unfolding read_on
  read_all h = rw (tree_end k xs h)
