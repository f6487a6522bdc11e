-- The descriptor at the front: what code finds there, and where it ends. Assumes nothing.
use Prim.Native.Nat.{ℕ, ◌+◌, ◌≤◌, ◌<◌}
use native.Mathlib.Omega.{arith}
use mathlib.Core.Path.{◌≡◌, refl, sym, ap, ◌∙◌}
use mathlib.Core.Bool.{false≢true}
use mathlib.Core.List.{List}
use mathlib.Core.Logic.{⊎_elim}
use lib.ListN.{length, get_or, drop}
use Rattle.wire.proofs.Tests.{lt_yea, lt_nay, lt_ways}
use Rattle.descriptors.specs.declared.length.Length.{Length}
use Rattle.std.specs.Prelude.{Option, Some, None, is_some, unwrap_or}
use Rattle.descriptors.specs.declared.descriptor.Descriptor.{Descriptor}
use Rattle.descriptors.specs.Lengths.{in_bytes, length_at}
use Rattle.descriptors.specs.Trees.{front_by, front_of}
use Rattle.descriptors.proofs.Lengths.{says_fits}

-- ---- what is found

-- ys are the bytes behind the tag, and l what their length says
module _ (xs : List ℕ) {ys : List ℕ} {l : Option Length} (q : ys ≡ drop 1 xs) (e : l ≡ length_at ys) where
  behind : length_at (drop 1 xs) ≡ l
  behind = rw (sym q) (sym e)

  pub front_broken : l ≡ None → None ≡ front_of xs
  unfolding front_of
  front_broken b = rw (behind, b)

  module _ {n k : ℕ} (s : l ≡ in_bytes n k) where
    says : length_at (drop 1 xs) ≡ in_bytes n k
    says = behind ∙ s

    pub front_cut : length xs < 1 + k + n → None ≡ front_of xs
    unfolding front_of
    front_cut h = rw says (lt_yea _ _ _ _ _ h refl)

    pub front_found : 1 + k + n ≤ length xs → {tag : ℕ} → tag ≡ get_or xs 0 0 → Some (record { tag = tag; head = 1 + k; span = 1 + k + n }) ≡ front_of xs
    unfolding front_of
    front_found h t = rw (says, t) (lt_nay _ _ _ _ _ h refl)

-- ---- where it ends

pub record Ends (xs : List ℕ) (d : Descriptor) : Type 0 where
  pub least : 2 ≤ d.head
  pub most : d.head ≤ 5
  pub inside : d.head ≤ d.span
  pub last : d.span ≤ length xs

pub ends : (xs : List ℕ) (d : Descriptor) → front_of xs ≡ Some d → Ends xs d
unfolding front_of
ends xs d e = go (length_at (drop 1 xs)) refl e
  where
    go : (o : Option Length) → length_at (drop 1 xs) ≡ o → front_by (get_or xs 0 0) o (length xs) ≡ Some d → Ends xs d
    go None q f = absurd (false≢true (ap is_some f))
    go (Some l) q f =
        let b = says_fits (drop 1 xs) refl q in
        ⊎_elim (λ t. absurd (false≢true (ap is_some t.1)))
        (λ t.
        let h : 1 + l.span ≡ d.head = ap (λ (o : Option Descriptor). (unwrap_or o d).head) t.1 in
        let s : 1 + l.span + l.number ≡ d.span = ap (λ (o : Option Descriptor). (unwrap_or o d).span) t.1 in
        record { least = omega arith; most = omega arith; inside = omega arith; last = omega arith })
        (lt_ways (length xs) (1 + l.span + l.number) _ _ _ f)
