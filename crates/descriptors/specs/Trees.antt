-- The descriptors of a part as a tree: "tag, a length .., contents", and in the contents others.
use Rattle.std.specs.Prelude.{ℕ, zero, suc, ◌+◌, ◌-◌, Bool, true, false, Option, Some, None, List, [], ◌∷◌, ◌++◌, length, take, drop, get_or}
use Rattle.wire.specs.Tests.{if_eq, if_lt}
use Rattle.wire.specs.Clauses.{is_eq, every, either}
use Rattle.std.specs.Str.{bytes_eq}
use Rattle.descriptors.specs.declared.length.Length.{Length}
use Rattle.descriptors.specs.declared.descriptor.Descriptor.{Descriptor}
use Rattle.descriptors.specs.Lengths.{length_at}
use Rattle.descriptors.specs.Parts.{ES, CONFIGURATION, SPECIFIC, SL, part_in, own_of, held_of, own_fits}

-- ---- the descriptor at the front

-- of a tag and a length, in so many bytes: its header's length and its whole one, where it ends inside
abbrev pub front_by : (tag : ℕ) → Option Length → (room : ℕ) → Option Descriptor
front_by tag (Some l) room =
    if_lt room (1 + l.span + l.number) None (Some (record { tag = tag; head = 1 + l.span; span = 1 + l.span + l.number }))
front_by tag None room = None

unfoldable pub front_of : List ℕ → Option Descriptor
front_of xs = front_by (get_or xs 0 0) (length_at (drop 1 xs)) (length xs)

abbrev pub contents : List ℕ → Descriptor → List ℕ
contents xs d = take (d.span - d.head) (drop d.head xs)

-- ---- all of them

-- descriptors one after the other, up to the end of what holds them or to bytes that are no whole one. Of each: which part it is, its
-- header's length, its own bytes, those that it holds, and those that follow it
pub data Tree : Type 0 where
  end : Tree
  loose : Tree
  descriptor : (part head : ℕ) (own : List ℕ) (held next : Tree) → Tree

-- of what stands in the part k at the front of xs, where go reads the others
abbrev pub tree_at : (ℕ → List ℕ → Tree) → ℕ → List ℕ → Option Descriptor → Tree
tree_at go k xs None = loose
tree_at go k xs (Some d) =
    let j = part_in k d.tag in
    descriptor j d.head (own_of j (contents xs d)) (go j (held_of j (contents xs d))) (go k (drop d.span xs))

unfoldable pub tree_by : (n k : ℕ) → List ℕ → Tree
tree_by zero k xs = end
tree_by (suc n) k xs = if_eq (length xs) 0 end (tree_at (λ j ys. tree_by n j ys) k xs (front_of xs))

-- the descriptors of the part k: each holds fewer bytes, and fewer follow it
unfoldable pub tree : ℕ → List ℕ → Tree
tree k xs = tree_by (length xs) k xs

-- ---- the first of them, where there is one

abbrev pub first_head : Tree → ℕ
first_head end = 0
first_head loose = 0
first_head (descriptor j h own held next) = h

abbrev pub first_own : Tree → List ℕ
first_own end = []
first_own loose = []
first_own (descriptor j h own held next) = own

abbrev pub first_held : Tree → Tree
first_held end = end
first_held loose = end
first_held (descriptor j h own held next) = held

-- and those after it
abbrev pub after_first : Tree → Tree
after_first end = end
after_first loose = end
after_first (descriptor j h own held next) = next

-- ---- what is asked of them

-- 50: "Descriptors nest and each must fit its parent exactly"
unfoldable pub all_fit : Tree → Bool
all_fit end = true
all_fit loose = false
all_fit (descriptor j h own held next) = every (own_fits j own ∷ all_fit held ∷ all_fit next ∷ [])

-- the parts as they come, each before those that it holds
unfoldable pub in_order : Tree → List ℕ
in_order end = []
in_order loose = []
in_order (descriptor j h own held next) = j ∷ (in_order held ++ in_order next)

-- 51: "Wanted, in this order, are ES tag 3, decoder configuration 4 .., specific information 5 if there, and SL configuration 6".
-- A tag counts as its part only in what it belongs into, so that the order says who holds whom
unfoldable pub wanted_parts : List ℕ → Bool
wanted_parts l =
    either (bytes_eq l (ES ∷ CONFIGURATION ∷ SL ∷ []) ∷ bytes_eq l (ES ∷ CONFIGURATION ∷ SPECIFIC ∷ SL ∷ []) ∷ [])
