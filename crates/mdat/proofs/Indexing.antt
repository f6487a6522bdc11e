-- The index of a file: each of its numbers is a start for what stands past its strides. Assumes nothing.
use Prim.Native.Nat.{ℕ, ◌+◌, ◌*◌, ◌≤◌, ◌<◌}
use native.Mathlib.Omega.{arith}
use mathlib.Core.Path.{◌≡◌}
use mathlib.Core.List.{List}
use lib.ListN.{length, get_or, set, replicate, length-set, length-replicate, get_or-replicate}
use lib.Seq.{get_or-set_same, get_or-set_other}
use Rattle.wire.proofs.Tests.{eq_or}
use Rattle.mdat.specs.Search.{STRIDE, Start, Index, Nearest}
use Rattle.mdat.proofs.Starts.{start_front, start_for}

-- before anything is noted, all are the front
pub index_none : (xs : List ℕ) (n : ℕ) → Index xs (replicate n 0)
index_none xs n = record { start = λ j h. rw (get_or-replicate {A = ℕ} n j 0 0 (rw (length-replicate {A = ℕ} n 0) at h)) (start_front xs (STRIDE * j + 1)) }

-- a box's start that is noted for a stride that it stands before
pub index_note : {xs index : List ℕ} (j at : ℕ) → at ≤ STRIDE * j → j < length index → Start xs (at + 1) at → Index xs index → Index xs (set index j at)
index_note {xs} {index} j at h k s i =
    record {
      start = λ m l.
          eq_or m j
          (λ e. rw (e, get_or-set_same index j at 0 k) (start_for s (STRIDE * j + 1) (omega arith)))
          (λ e. rw (get_or-set_other index j m at 0 e) (i.start m (rw (length-set index j at) at l)));
    }

-- what it has is a start for a place past the stride
pub index_nearest : (index : List ℕ) (j o r : ℕ) → j < length index → STRIDE * j < o → r ≡ get_or index j 0 → Nearest index 0 o r
index_nearest index j o r h k e = record { start = λ xs s i. rw e (start_for (i.start j h) o (omega (arith, (i.start j h).before))) }
