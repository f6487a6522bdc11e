-- Where chunk offsets follow, only they differ; and so it is of a move, next to the closed file's boxes in their new order. Assumes nothing.
use Prim.Native.Nat.{ℕ, ◌<◌}
use native.Mathlib.Omega.{arith}
use mathlib.Core.Path.{◌≡◌, refl, sym, ◌∙◌}
use mathlib.Core.List.{List, []}
use lib.ListN.{length}
use Rattle.codes.specs.Codes.{STBL}
use Rattle.wire.specs.Numbers.{Bytes}
use Rattle.wire.proofs.Tests.{eq_or}
use Rattle.boxes.specs.Box.{write}
use Rattle.boxes.specs.Boxes.{boxes, after}
use Rattle.boxes.specs.Containers.{FILE, DEPTH, LONGEST}
use Rattle.boxes.specs.Words.{reword_leaf}
use Rattle.boxes.specs.Kin.{Kin}
use Rattle.boxes.proofs.Kin.{Made, kin_edit, kin_less}
use Rattle.boxes.proofs.Wording.{leaf_hit, leaf_code, leaf_kind}
use Rattle.mdat.specs.Relocate.{relocate}
use Rattle.release.specs.Releases.{release_of}
use Rattle.judge.specs.Acceptance.{Meets}
use Rattle.edit_offsets.specs.Close.{closed}
use Rattle.edit_offsets.specs.Settle.{offsets, settled}
use Rattle.edit_offsets.proofs.Accepted.{file_tiled}
use Rattle.edit_offsets.proofs.Settled.{settled_length}
use Rattle.edit_move.specs.Moving.{moov_second, move_of}
use Rattle.promise_kept.proofs.Arranging.{arranged_boxes, arranged_bytes, arranged_length}
use Rattle.promise_kept.proofs.Content.{Content, content_closed}
use Rattle.promise_kept.proofs.Second.{second}
use Rattle.promise_differs.specs.Differs.{HasOffsets, OnlyOffsets}
use Rattle.promise_differs.proofs.Bodies.{but_tail}

-- ---- chunk offsets by any function

module _ (f : ℕ → ℕ) (k c : ℕ) (b : List ℕ) where
  others_same : (HasOffsets k c → ⊥) → b ≡ reword_leaf offsets f k c b
  others_same n = eq_or k STBL (λ e. leaf_code offsets f k c b e (λ g. n (e, g))) (leaf_kind offsets f k c b)

  pub only_offsets : (b' : List ℕ) → Made (reword_leaf offsets f) k c b b' → OnlyOffsets k c b b'
  only_offsets b' r =
      record {
        offsets = λ o. rw (r.0 ∙ sym (leaf_hit offsets f k c b o.0 o.1 refl)) (but_tail f 8 LONGEST b);
        rest = λ n. others_same n ∙ sym r.0;
      }

-- a file of which the chunk offsets follow
pub settled_differs : (xs zs : List ℕ) → Bytes zs → length zs < 4294967296 → Kin OnlyOffsets DEPTH FILE zs (settled xs zs)
unfolding settled
settled_differs xs zs w n =
    let f = relocate (boxes xs) (boxes zs) in
    kin_less (Made (reword_leaf offsets f)) OnlyOffsets (only_offsets f) DEPTH FILE zs _ (kin_edit (reword_leaf offsets f) DEPTH FILE zs w (omega (arith, settled_length xs zs)))

-- ---- a move

module _ (xs : List ℕ) (w : Bytes xs) (m : Meets xs) where
  abbrev shut : Content (release_of (boxes xs)) xs (closed xs)
  shut = content_closed (release_of (boxes xs)) xs w m.most

  tiled : after (closed xs) ≡ []
  tiled = sym shut.kin.1 ∙ file_tiled xs m

  small : length (closed xs) < 4294967296
  small = omega (arith, shut.small)

  -- the boxes of the closed file in their new order, each with its bytes
  pub move_order : boxes (write (moov_second (boxes (closed xs)))) ≡ moov_second (boxes (closed xs))
  move_order = arranged_boxes second (closed xs) shut.bytes tiled small shut.shut

  -- and then only chunk offsets differ
  pub move_differs : Kin OnlyOffsets DEPTH FILE (write (moov_second (boxes (closed xs)))) (move_of xs)
  unfolding move_of
  move_differs =
      settled_differs xs (write (moov_second (boxes (closed xs)))) (arranged_bytes second (closed xs) shut.bytes tiled small shut.shut)
      (omega (arith, arranged_length second (closed xs) shut.bytes tiled small shut.shut, small))
