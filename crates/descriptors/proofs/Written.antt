-- A descriptor that is written is read as it was. Assumes nothing.
use Prim.Native.Nat.{ℕ, ◌+◌, ◌-◌, ◌%◌, ◌≤◌, ◌<◌}
use native.Mathlib.Omega.{arith}
use mathlib.Core.Path.{◌≡◌, refl, sym, ◌∙◌}
use mathlib.Core.List.{List, [], ◌∷◌, ◌++◌, append_assoc}
use lib.ListN.{length, length-append}
use lib.Seq.{take-append_seam, drop_at}
use Rattle.wire.specs.Numbers.{bytes, bytes_on}
use Rattle.wire.proofs.Numbers.{length_bytes_lem}
use Rattle.descriptors.specs.declared.descriptor.Descriptor.{Descriptor}
use Rattle.std.specs.Prelude.{Some}
use Rattle.descriptors.specs.Lengths.{least_more, shortest, TOO_LONG}
use Rattle.descriptors.specs.Parts.{part_in, own_of, held_of}
use Rattle.descriptors.specs.Trees.{descriptor, front_of, contents, tree}
use Rattle.descriptors.specs.Texts.{head_text, descriptor_text}
use Rattle.descriptors.proofs.Shortest.{length_shortest, shortest_read}
use Rattle.descriptors.proofs.Fronts.{front_found}
use Rattle.descriptors.proofs.Trees.{tree_found}

-- ---- the header

-- how long it is
abbrev pub head_span : ℕ → ℕ
head_span n = 1 + (least_more n + 1)

pub length_head : (tag n : ℕ) → length (head_text tag n) ≡ head_span n
unfolding head_text
length_head tag n = rw (length-append, length_bytes_lem, length_shortest)

pub length_text : (tag : ℕ) (xs : List ℕ) → length (descriptor_text tag xs) ≡ head_span (length xs) + length xs
unfolding descriptor_text
length_text tag xs = rw (length-append, length_head)

one_byte : (n : ℕ) → n < 256 → bytes 1 n ≡ n ∷ []
unfolding bytes bytes_on
one_byte n h = let e : n % 256 ≡ n = omega arith in rw e

-- ---- the descriptor, whose contents are xs, and then zs

module _ (tag : ℕ) (xs zs : List ℕ) (small : tag < 256) (short : length xs < TOO_LONG) where
  abbrev all : List ℕ
  all = descriptor_text tag xs ++ zs

  abbrev d : Descriptor
  d = record { tag = tag; head = head_span (length xs); span = head_span (length xs) + length xs }

  -- the tag, and what follows it
  all_is : all ≡ tag ∷ (shortest (length xs) ++ (xs ++ zs))
  unfolding descriptor_text head_text
  all_is = rw (one_byte tag small, append_assoc)

  text_front : Some d ≡ front_of all
  text_front =
      let n : 1 + (least_more (length xs) + 1) + length xs ≤ length all = omega (arith, length-append (descriptor_text tag xs) zs, length_text tag xs) in
      let e = shortest_read (length xs) short (xs ++ zs) in
      rw all_is (front_found (tag ∷ (shortest (length xs) ++ (xs ++ zs))) refl (sym e) refl (rw all_is at n) refl)

  text_contents : contents all d ≡ xs
  unfolding descriptor_text
  text_contents =
      let n : head_span (length xs) + length xs - head_span (length xs) ≡ length xs = omega arith in
      rw (append_assoc, drop_at (head_text tag (length xs)) (xs ++ zs) (head_span (length xs)) (length_head tag (length xs)), n) (take-append_seam xs zs)

  pub tree_text : (k : ℕ)
      → tree k all ≡ descriptor (part_in k tag) (head_span (length xs)) (own_of (part_in k tag) xs) (tree (part_in k tag) (held_of (part_in k tag) xs)) (tree k zs)
  tree_text k =
      tree_found k all d (sym text_front)
      ∙ rw (text_contents, drop_at (descriptor_text tag xs) zs (head_span (length xs) + length xs) (length_text tag xs))
