-- An edit of a file: its content, the order of its boxes, and chunk offsets that follow. Assumes nothing.
use Prim.Native.Nat.{ℕ, ◌<◌}
use native.Mathlib.Omega.{arith}
use mathlib.Core.Path.{◌≡◌, sym, ◌∙◌}
use mathlib.Core.List.{List, []}
use lib.ListN.{length}
use Rattle.wire.specs.Numbers.{Bytes}
use Rattle.boxes.specs.Box.{Box, write}
use Rattle.boxes.specs.Boxes.{boxes, after}
use Rattle.boxes.specs.Containers.{FILE, DEPTH, LONGEST}
use Rattle.boxes.specs.Rewrite.{Leaves, edit_in}
use Rattle.boxes.specs.Words.{reword_leaf}
use Rattle.boxes.specs.Kin.{All2, Leaf, Kin}
use Rattle.boxes.proofs.Reading.{All}
use Rattle.boxes.proofs.Kin.{Then, Made, kin_then, kin_edit}
use Rattle.boxes.proofs.Editing.{edit_length, edit_bytes}
use Rattle.boxes.proofs.Wording.{leaf_length, leaf_bytes}
use Rattle.mdat.specs.Relocate.{relocate, Alike}
use Rattle.rule_tracks.specs.Six.{six_rule}
use Rattle.release.specs.Releases.{release_of}
use Rattle.judge.specs.Acceptance.{Meets}
use Rattle.edit_offsets.specs.Settle.{offsets, settled}
use Rattle.edit_offsets.proofs.Closing.{ShutMoov}
use Rattle.edit_offsets.proofs.Accepted.{file_tiled}
use Rattle.promise_kept.proofs.Sound.{Sound, sound_less, sound_then}
use Rattle.promise_kept.proofs.Content.{Content, kin_shut}
use Rattle.promise_kept.proofs.Knowing.{With, kin_with, short, short_all}
use Rattle.promise_kept.proofs.Offsets.{offsets_sound}
use Rattle.promise_kept.proofs.Arranges.{Arranges}
use Rattle.promise_kept.proofs.Arranging.{arranged_boxes, arranged_edit, arranged_alike}

-- the file xs, its content edited to ys, its boxes in the order A
module _ {A : List Box → List Box} (a : Arranges A) (xs ys : List ℕ) (w : Bytes xs) (m : Meets xs) (c : Content (release_of (boxes xs)) xs ys) where
  abbrev g : Leaves
  g = reword_leaf offsets (relocate (boxes xs) (A (boxes ys)))

  -- the content with chunk offsets that follow
  abbrev pub new : List ℕ
  new = edit_in (reword_leaf offsets (relocate (boxes xs) (A (boxes ys)))) DEPTH FILE ys

  -- chunk offsets are rewritten in place
  keeps : (k d : ℕ) (b : List ℕ) → length (g k d b) ≡ length b
  keeps k d b = leaf_length offsets (relocate (boxes xs) (A (boxes ys))) k d b

  -- boxes tile the file
  pub xs_tiled : after xs ≡ []
  xs_tiled = file_tiled xs m

  -- and its content
  pub ys_tiled : after ys ≡ []
  ys_tiled = sym c.kin.1 ∙ xs_tiled

  ys_small : length ys < 4294967296
  ys_small = omega (arith, c.small)

  -- it holds bytes
  pub new_bytes : Bytes new
  new_bytes = edit_bytes g (λ k d b. leaf_bytes offsets (relocate (boxes xs) (A (boxes ys))) k d b) DEPTH FILE ys c.bytes

  -- as many as the content
  pub new_length : length new ≡ length ys
  new_length = edit_length g keeps DEPTH FILE ys

  -- few enough for its boxes to be read again
  pub new_small : length new < 4294967296
  new_small = omega (arith, new_length, c.small)

  abbrev made : Kin (Made (reword_leaf offsets (relocate (boxes xs) (A (boxes ys))))) DEPTH FILE ys new
  made = kin_edit g DEPTH FILE ys c.bytes new_small

  -- no `moov` of it is open
  pub new_shut : All ShutMoov (boxes new)
  new_shut = kin_shut made.0 c.shut

  -- what is known of its boxes
  abbrev pub Changes : Leaf
  Changes = Then (With six_rule (With (short LONGEST) c.leaf)) (Made (reword_leaf offsets (relocate (boxes xs) (A (boxes ys)))))

  -- it has the boxes of the file, related so
  pub edit_kin : Kin Changes DEPTH FILE xs new
  edit_kin =
      kin_then (With six_rule (With (short LONGEST) c.leaf)) (Made g) DEPTH FILE xs ys new
      (kin_with six_rule (With (short LONGEST) c.leaf) DEPTH FILE xs ys (kin_with (short LONGEST) c.leaf DEPTH FILE xs ys c.kin (short_all LONGEST DEPTH FILE xs m.most)) m.six)
      made

  -- which keeps every rule but 8
  pub edit_sound : Sound (release_of (boxes xs)) Changes
  edit_sound = sound_then (sound_less (λ k d b b' r. r.0.0) c.sound) (offsets_sound (relocate (boxes xs) (A (boxes ys))) (release_of (boxes xs)))

  -- boxes tile it
  pub new_tiled : after new ≡ []
  new_tiled = sym edit_kin.1 ∙ xs_tiled

  -- the edited file, as boxes that were put in order
  pub settled_is : settled xs (write (A (boxes ys))) ≡ write (A (boxes new))
  unfolding settled
  settled_is = rw (arranged_boxes a ys c.bytes ys_tiled ys_small c.shut) (arranged_edit a ys c.bytes ys_tiled ys_small c.shut g keeps 5 FILE)

  -- its layout is that of the content
  pub new_alike : All2 Alike (A (boxes ys)) (A (boxes new))
  new_alike = arranged_alike a ys c.bytes ys_tiled ys_small c.shut g keeps 5 FILE
