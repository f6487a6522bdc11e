-- What kin tracks have in common along a way. Assumes nothing.
use Prim.Native.Nat.{ℕ, zero, suc}
use native.Mathlib.Omega.{arith}
use mathlib.Core.Path.{◌≡◌, refl, subst}
use mathlib.Core.List.{List, []}
use Rattle.wire.specs.Tests.{if_eq}
use Rattle.wire.specs.Numbers.{word}
use Rattle.codes.specs.Codes.{TRAK, MDIA, MDHD, HDLR, MINF, DINF, DREF, STBL, STSD}
use Rattle.boxes.specs.Boxes.{boxes}
use Rattle.boxes.specs.Seek.{ANY, find}
use Rattle.boxes.specs.Containers.{kind_in, parent}
use Rattle.boxes.specs.Kin.{Leaf, Kin}
use Rattle.boxes.proofs.Kin.{kin_find, kin_child}
use Rattle.movie.specs.Ways.{to_stsd, follow}
use Rattle.movie.specs.Movie.{references, handler, scale}

-- what is said of two parts, said of the first box of code c in each
abbrev pub In : ℕ → (List ℕ → List ℕ → Type 0) → List ℕ → List ℕ → Type 0
In c P xs ys = P (find c (boxes xs)) (find c (boxes ys))

module _ (G : Leaf) (k c : ℕ) (z : c ≡ ANY → ⊥) (P : List ℕ → List ℕ → Type 0) (same : (b : List ℕ) → P b b) where
  leaf_in : kind_in k c ≡ 0 → ((b b' : List ℕ) → G k c b b' → P b b') → (d : ℕ) (xs ys : List ℕ) → Kin G d k xs ys → In c P xs ys
  leaf_in o h zero xs ys e = subst (λ (u : List ℕ). In c P xs u) e (same (find c (boxes xs)))
  leaf_in o h (suc d) xs ys a = kin_find G d k xs ys a c z P (same []) o h 0

  node_in : (kind_in k c ≡ 0 → ⊥) → ((d : ℕ) (b b' : List ℕ) → Kin G d (kind_in k c) b b' → P b b') → (d : ℕ) (xs ys : List ℕ) → Kin G d k xs ys → In c P xs ys
  node_in o h zero xs ys e = subst (λ (u : List ℕ). In c P xs u) e (same (find c (boxes xs)))
  node_in o h (suc d) xs ys a = kin_child G d k xs ys a c z P (same []) o (h d) 0

module _ (G : Leaf) (P : List ℕ → List ℕ → Type 0) (same : (b : List ℕ) → P b b) where
  -- in `mdia`
  in_mdia : (c : ℕ) → (c ≡ ANY → ⊥) → kind_in MDIA c ≡ 0 → ((b b' : List ℕ) → G MDIA c b b' → P b b') → (d : ℕ) (b b' : List ℕ) → Kin G d TRAK b b' → In MDIA (In c P) b b'
  unfolding kind_in parent if_eq
  in_mdia c z o h = node_in G TRAK MDIA (λ e. omega arith) (In c P) (λ b. same _) (λ e. omega arith) (leaf_in G MDIA c z P same o h)

  -- in a container of `minf`
  in_minf : (k c : ℕ) → (k ≡ ANY → ⊥) → (c ≡ ANY → ⊥) → kind_in MINF k ≡ k → kind_in k c ≡ 0 → ((b b' : List ℕ) → G k c b b' → P b b') → (d : ℕ) (b b' : List ℕ) → Kin G d TRAK b b' → In MDIA (In MINF (In k (In c P))) b b'
  unfolding kind_in parent if_eq
  in_minf k c y z i o h =
      node_in G TRAK MDIA (λ e. omega arith) (In MINF (In k (In c P))) (λ b. same _) (λ e. omega arith)
      (node_in G MDIA MINF (λ e. omega arith) (In k (In c P)) (λ b. same _) (λ e. omega arith)
      (node_in G MINF k y (In c P) (λ b. same _) (λ e. y (rw i at e)) (λ d b b' a. leaf_in G k c z P same o h d b b' (rw i at a))))

  -- the `stsd`
  pub kin_stsd : ((b b' : List ℕ) → G STBL STSD b b' → P b b') → (d : ℕ) (b b' : List ℕ) → Kin G d TRAK b b' → P (follow to_stsd b) (follow to_stsd b')
  unfolding follow kind_in parent if_eq
  kin_stsd = in_minf STBL STSD (λ e. omega arith) (λ e. omega arith) refl refl

-- ---- what a track says

module _ (G : Leaf) where
  pub kin_references : ((b b' : List ℕ) → G DINF DREF b b' → word 4 b 4 ≡ word 4 b' 4) → (d : ℕ) (b b' : List ℕ) → Kin G d TRAK b b' → references b ≡ references b'
  unfolding references follow kind_in parent if_eq
  kin_references = in_minf G (λ b b'. word 4 b 4 ≡ word 4 b' 4) (λ b. refl) DINF DREF (λ e. omega arith) (λ e. omega arith) refl refl

  pub kin_scale : ((b b' : List ℕ) → G MDIA MDHD b b' → word 4 b 12 ≡ word 4 b' 12) → (d : ℕ) (b b' : List ℕ) → Kin G d TRAK b b' → scale b ≡ scale b'
  unfolding scale kind_in parent if_eq
  kin_scale = in_mdia G (λ b b'. word 4 b 12 ≡ word 4 b' 12) (λ b. refl) MDHD (λ e. omega arith) refl

  pub kin_handler : ((b b' : List ℕ) → G MDIA HDLR b b' → word 4 b 8 ≡ word 4 b' 8) → (d : ℕ) (b b' : List ℕ) → Kin G d TRAK b b' → handler b ≡ handler b'
  unfolding handler kind_in parent if_eq
  kin_handler = in_mdia G (λ b b'. word 4 b 8 ≡ word 4 b' 8) (λ b. refl) HDLR (λ e. omega arith) refl
