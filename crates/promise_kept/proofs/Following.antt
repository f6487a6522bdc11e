-- The payloads of an edited file, and the chunk offsets that follow them. Assumes nothing.
use Prim.Native.Nat.{ℕ}
use native.Mathlib.Omega.{arith}
use mathlib.Core.Path.{◌≡◌, refl, sym, ◌∙◌}
use mathlib.Core.List.{List}
use Rattle.wire.specs.Tests.{if_eq}
use Rattle.wire.specs.Numbers.{Bytes}
use Rattle.codes.specs.Codes.{STBL, STCO}
use Rattle.boxes.specs.Box.{Box, write}
use Rattle.boxes.specs.Boxes.{boxes}
use Rattle.boxes.specs.Containers.{parent, kind_in}
use Rattle.boxes.specs.Seek.{find}
use Rattle.boxes.specs.Kin.{Kin}
use Rattle.boxes.proofs.Kin.{kin_find}
use Rattle.mdat.specs.Payloads.{mdats}
use Rattle.mdat.specs.Relocate.{relocate, Relocated}
use Rattle.mdat.proofs.Mdats.{kin_mdats}
use Rattle.mdat.proofs.Staying.{relocate_like, relocated_none}
use Rattle.mdat.proofs.Relocating.{relocate_below}
use Rattle.release.specs.Releases.{release_of}
use Rattle.judge.specs.Acceptance.{Meets}
use Rattle.promise_kept.proofs.Content.{Content}
use Rattle.promise_kept.proofs.Offsets.{offsets_moved}
use Rattle.promise_kept.proofs.Arranges.{Arranges}
use Rattle.promise_kept.proofs.Arranging.{arranged_boxes, arranged_length}
use Rattle.promise_kept.proofs.Settling.{new, new_bytes, new_tiled, new_small, new_shut, new_alike, Changes, edit_kin, edit_sound}

module _ {A : List Box → List Box} (a : Arranges A) (xs ys : List ℕ) (w : Bytes xs) (m : Meets xs) (c : Content (release_of (boxes xs)) xs ys) where
  abbrev mid : List ℕ
  mid = new a xs ys w m c

  -- the edited file has its boxes in order
  pub in_order : boxes (write (A (boxes (new a xs ys w m c)))) ≡ A (boxes (new a xs ys w m c))
  in_order = arranged_boxes a mid (new_bytes a xs ys w m c) (new_tiled a xs ys w m c) (new_small a xs ys w m c) (new_shut a xs ys w m c)

  -- the file and the edited file have the same payloads
  pub same_payloads : mdats (boxes xs) ≡ mdats (A (boxes (new a xs ys w m c)))
  same_payloads = kin_mdats (Changes a xs ys w m c) 5 xs mid (edit_sound a xs ys w m c).mdat (edit_kin a xs ys w m c) ∙ sym (a.payloads (boxes mid))

  -- each chunk offset is relocated from the file to the edited file
  pub edit_moved : (b b'' : List ℕ) → Changes a xs ys w m c STBL STCO b b'' → Relocated (boxes xs) (A (boxes (new a xs ys w m c))) b b''
  edit_moved =
      offsets_moved c.leaf c.stco (relocate (boxes xs) (A (boxes ys))) (boxes xs) (A (boxes mid))
      (λ o. relocate_like (boxes xs) (new_alike a xs ys w m c) o)
      (λ o h. relocate_below (boxes xs) (A (boxes mid)) same_payloads (omega (arith, arranged_length a mid (new_bytes a xs ys w m c) (new_tiled a xs ys w m c) (new_small a xs ys w m c) (new_shut a xs ys w m c), new_small a xs ys w m c)) o h)

  -- so each of those of two `stbl`
  pub stbl_moved : (b b' : List ℕ) → Kin (Changes a xs ys w m c) 1 STBL b b' → Relocated (boxes xs) (boxes (write (A (boxes (new a xs ys w m c))))) (find STCO (boxes b)) (find STCO (boxes b'))
  unfolding kind_in parent if_eq
  stbl_moved b b' h =
      rw (in_order) (kin_find (Changes a xs ys w m c) 0 STBL b b' h STCO (λ z. omega arith) (Relocated (boxes xs) (A (boxes mid))) (relocated_none (boxes xs) (A (boxes mid))) refl edit_moved 0)
