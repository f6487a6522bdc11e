-- Relocation sees of the second file only its layout. Assumes nothing.
use Prim.Native.Nat.{ℕ, zero, suc}
use native.Mathlib.Omega.{arith}
use mathlib.Core.Path.{◌≡◌, refl, sym, ◌∙◌}
use mathlib.Core.List.{List, [], map}
use lib.ListN.{length}
use Rattle.wire.specs.Tests.{if_le}
use Rattle.wire.specs.Numbers.{word}
use Rattle.boxes.specs.Box.{Box}
use Rattle.boxes.specs.Rewrite.{Bodies, over}
use Rattle.boxes.specs.Kin.{All2}
use Rattle.boxes.specs.Kin.All2.{nil, cons}
use Rattle.boxes.proofs.Pairs.{all2_refl, all2_map}
use Rattle.mdat.specs.Payloads.{Spot, nowhere, spot, resolve, place_of}
use Rattle.mdat.specs.Relocate.{put_at, relocate, Relocated, Alike}
use Rattle.mdat.proofs.Resolving.{resolved}

-- ---- the same layout

pub alike_refl : (l : List Box) → All2 Alike l l
alike_refl = all2_refl (λ x. record { head = refl; code = refl; long = refl })

-- bodies of the same length leave the layout
pub alike_over : (f : Bodies) → ((c : ℕ) (b : List ℕ) → length (f c b) ≡ length b) → (l : List Box) → All2 Alike l (map (over f) l)
alike_over f keeps = all2_map (over f) (λ x. record { head = refl; code = refl; long = sym (keeps x.code x.body) })

-- ---- relocation

place_alike : {l m : List Box} → All2 Alike l m → (j i : ℕ) → place_of l j i ≡ place_of m j i
unfolding place_of
place_alike nil j i = refl
place_alike (cons r a) zero i = rw (r.head, r.code, r.long, place_alike a zero i)
place_alike (cons r a) (suc j) i = rw (r.head, r.code, r.long, place_alike a j i, place_alike a (suc j) i)

pub relocate_like : (l : List Box) {m m' : List Box} → All2 Alike m m' → (o : ℕ) → relocate l m o ≡ relocate l m' o
unfolding relocate
relocate_like l {m} {m'} a o = go (resolve l o)
  where
    go : (s : Spot) → put_at m o s ≡ put_at m' o s
    go nowhere = refl
    go (spot j i) = place_alike a j i

pub relocate_same : (l : List Box) (o : ℕ) → relocate l l o ≡ o
unfolding relocate
relocate_same l o = go (resolve l o) refl
  where
    go : (s : Spot) → resolve l o ≡ s → put_at l o s ≡ o
    go nowhere e = refl
    go (spot j i) e = sym (resolved l o j i e).is

-- to a file with the same layout nothing moves
pub relocate_alike : {l m : List Box} → All2 Alike l m → (o : ℕ) → relocate l m o ≡ o
relocate_alike {l} a o = sym (relocate_like l a o) ∙ relocate_same l o

-- a table that is missing of both has no offsets
pub relocated_none : (l m : List Box) → Relocated l m [] []
unfolding word if_le
relocated_none l m = record { same = refl; offsets = λ k h. absurd (omega arith) }
