-- From two kin files down to the tables of one of their tracks. Assumes nothing.
use Prim.Native.Nat.{ℕ}
use native.Mathlib.Omega.{arith}
use mathlib.Core.List.{List, []}
use Rattle.wire.specs.Tests.{if_eq}
use Rattle.codes.specs.Codes.{MOOV, TRAK, MDIA, MINF, STBL}
use Rattle.boxes.specs.Boxes.{boxes}
use Rattle.boxes.specs.Containers.{FILE, DEPTH, parent, kind_in}
use Rattle.boxes.specs.Seek.{nth}
use Rattle.boxes.specs.Kin.{Leaf, Kin}
use Rattle.boxes.proofs.Kin.{kin_child}
use Rattle.movie.specs.Movie.{track}
use Rattle.movie.proofs.Kept.{In}

-- what is said of the payloads of two `stbl`, said of those of their `trak`
abbrev pub Tracked : (List ℕ → List ℕ → Type 0) → List ℕ → List ℕ → Type 0
Tracked T = In MDIA (In MINF (In STBL T))

-- T says of two `stbl` what their kinship does, and of nothing
module _ (G : Leaf) (T : List ℕ → List ℕ → Type 0) (empty : T [] []) (last : (b b' : List ℕ) → Kin G 1 STBL b b' → T b b') where
  kin_trak : (b b' : List ℕ) → Kin G 4 TRAK b b' → Tracked T b b'
  unfolding kind_in parent if_eq boxes nth
  kin_trak b b' r =
      kin_child G 3 TRAK b b' r MDIA (λ z. omega arith) (In MINF (In STBL T)) empty (λ z. omega arith)
      (λ b b' r. kin_child G 2 MDIA b b' r MINF (λ z. omega arith) (In STBL T) empty (λ z. omega arith)
      (λ b b' r. kin_child G 1 MINF b b' r STBL (λ z. omega arith) T empty (λ z. omega arith) last 0) 0) 0

  -- so it says of the tables of track t of two kin files
  pub kin_track : (xs ys : List ℕ) → Kin G DEPTH FILE xs ys → (t : ℕ) → Tracked T (track xs t) (track ys t)
  unfolding track kind_in parent if_eq boxes nth
  kin_track xs ys r t =
      kin_child G 5 FILE xs ys r MOOV (λ z. omega arith) (λ b b'. Tracked T (nth TRAK t (boxes b)) (nth TRAK t (boxes b'))) empty (λ z. omega arith)
      (λ b b' r. kin_child G 4 MOOV b b' r TRAK (λ z. omega arith) (Tracked T) empty (λ z. omega arith) kin_trak t) 0
