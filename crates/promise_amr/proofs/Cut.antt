-- Of the file of frames that was cut after n bytes of them, salvage keeps exactly those frames that lie whole in these bytes. Assumes nothing.
use Prim.Native.Nat.{ℕ, zero, suc, ◌+◌, ◌-◌, ◌≤◌, ◌<◌}
use native.Mathlib.Omega.{arith}
use mathlib.Core.Path.{◌≡◌, refl, sym, ap, ◌∙◌}
use mathlib.Core.Bool.{true, false}
use mathlib.Core.List.{List, [], ◌∷◌, ◌++◌, append-nil}
use lib.ListN.{length, take, length-take, length-append}
use lib.Seq.{get_or-take, take_all, take-append-le}
use Rattle.wire.specs.Tests.{if_le}
use Rattle.wire.specs.Numbers.{bytes_on, bytes, word}
use Rattle.wire.proofs.Tests.{le_yea, le_nay, lt_or}
use Rattle.wire.proofs.Clauses.{is_eq_lem, holds, done, one}
use Rattle.wire.proofs.Lists.{take_past, drop_past}
use Rattle.wire.proofs.Numbers.{word_left}
use Rattle.codes.specs.Codes.{FTYP, MDAT}
use Rattle.boxes.specs.Box.{header, write}
use Rattle.frames.specs.declared.codec.Codec.{Codec}
use Rattle.frames.specs.Frames.{frame_size, good, frames, joined, EachGood, none, some}
use Rattle.frames.proofs.Fronts.{short_not, cut_not}
use Rattle.frames.proofs.Runs.{frames_stop, to_take}
use Rattle.frames.proofs.Good.{size_alike, frames_cons}
use Rattle.from_amr.specs.Fields.{fields}
use Rattle.from_amr.specs.Boxes.{ftyp}
use Rattle.from_amr.specs.File.{ftyp_box}
use Rattle.from_amr.specs.Dump.{MOST_FRAMES}
use Rattle.salvage.specs.Unfinished.{size_field, code_field, behind_ftyp, endless, unfinished}
use Rattle.salvage.specs.Salvage.{payload_of, kept_frames}
use Rattle.salvage.proofs.Fronts.{is_such}
use Rattle.promise_amr.specs.Salvaged.{cut_after, whole_in}

-- an `mdat` with size 0 has no end
size_zero : (ys : List ℕ) → code_field ys ≡ MDAT → size_field ys ≡ 0 → true ≡ endless ys
unfolding endless
size_zero ys m h = holds _ _ (is_eq_lem _ _ m) (holds _ _ (sym (one 0 _ (is_eq_lem _ _ h))) done)

-- ---- frames that are cut

-- a frame that lacks bytes is a bad one
cut_bad : (k : Codec) (f : List ℕ) (n : ℕ) → frame_size k f ≡ length f → n < length f → good k (take n f) ≡ false
cut_bad k f zero s h = short_not k [] (omega arith)
cut_bad k f (suc n) s h =
    let e : frame_size k (take (suc n) f) ≡ length f = size_alike k (take (suc n) f) f (get_or-take (suc n) f 0 0 (omega arith)) ∙ s in
    cut_not k (take (suc n) f) (omega (arith, length-take (suc n) f))

whole_few : (n : ℕ) (l : List (List ℕ)) → length (whole_in n l) ≤ length l
unfolding whole_in
whole_few n [] = omega arith
whole_few n (f ∷ l) =
    lt_or n (length f)
    (λ h. rw (← le_nay (length f) n (f ∷ whole_in (n - length f) l) [] [] h refl) (omega arith))
    (λ h. rw (← le_yea (length f) n (f ∷ whole_in (n - length f) l) [] _ h refl) (omega (arith, whole_few (n - length f) l)))

frames_cut : (k : Codec) (n : ℕ) (l : List (List ℕ)) → EachGood k l → frames k (take n (joined l)) ≡ whole_in n l
unfolding joined whole_in
frames_cut k n [] none = rw (take_all {A = ℕ} n [] (omega arith)) (frames_stop k [] (short_not k [] (omega arith)))
frames_cut k n (f ∷ l) (some g s a) =
    lt_or n (length f)
    (λ h. le_nay _ _ _ _ _ h (rw (take-append-le n f (joined l) (omega arith)) (frames_stop k (take n f) (cut_bad k f n s h))))
    (λ h.
    let m : n ≡ length f + (n - length f) = omega arith in
    let t : take n (f ++ joined l) ≡ f ++ take (n - length f) (joined l) =
    ap (λ (i : ℕ). take i (f ++ joined l)) m ∙ take_past f (joined l) (length f) (n - length f) refl in
    le_yea _ _ _ _ _ h (rw t (frames_cons k f (take (n - length f) (joined l)) g s ∙ rw (frames_cut k (n - length f) l a))))

-- ---- the file that is cut

abbrev front : List ℕ
front = write (ftyp_box ∷ [])

abbrev endless_front : List ℕ
endless_front = bytes 4 0 ++ bytes 4 MDAT

front_says : (length front ≡ 24) × (size_field front ≡ 24) × (code_field front ≡ FTYP)
unfolding write header ftyp fields bytes bytes_on word if_le
front_says = (refl, refl, refl)

endless_says : (length endless_front ≡ 8) × (size_field endless_front ≡ 0) × (code_field endless_front ≡ MDAT)
unfolding bytes bytes_on word if_le
endless_says = (refl, refl, refl)

module _ (n : ℕ) (l : List (List ℕ)) where
  behind : List ℕ
  behind = endless_front ++ take n (joined l)

  cut_is : cut_after n l ≡ front ++ behind
  unfolding cut_after write header ftyp fields bytes bytes_on behind
  cut_is = rw (append-nil (take n (joined l)))

  -- what its fields say, as far as they lie inside
  cut_field : (at : ℕ) → at + 4 ≤ 24 → word 4 (cut_after n l) at ≡ word 4 front at
  cut_field at h = rw cut_is (word_left 4 front behind at (rw front_says.0 h))

  behind_field : (at : ℕ) → at + 4 ≤ 8 → word 4 behind at ≡ word 4 endless_front at
  unfolding behind
  behind_field at h = word_left 4 endless_front (take n (joined l)) at (rw endless_says.0 h)

  cut_behind : behind_ftyp (cut_after n l) ≡ behind
  cut_behind = rw (cut_field 0 (omega arith), front_says.1, cut_is) (drop_past front behind 24 0 front_says.0)

  cut_payload : payload_of (cut_after n l) ≡ take n (joined l)
  unfolding payload_of behind
  cut_payload = rw cut_behind (drop_past endless_front (take n (joined l)) 8 0 endless_says.0)

  -- it is such a file
  pub cut_unfinished : unfinished (cut_after n l) ≡ true
  cut_unfinished =
      let s : size_field (cut_after n l) ≡ 24 = cut_field 0 (omega arith) ∙ front_says.1 in
      let m : code_field behind ≡ MDAT = behind_field 4 (omega arith) ∙ endless_says.2 in
      let z : size_field behind ≡ 0 = behind_field 0 (omega arith) ∙ endless_says.1 in
      is_such (cut_after n l) (cut_field 4 (omega arith) ∙ front_says.2) (omega arith)
      (omega (arith, ap length cut_is, length-append front behind, front_says.0)) (rw cut_behind (sym (size_zero behind m z)))

  -- exactly the whole frames of those n bytes are kept
  pub cut_kept : (k : Codec) → EachGood k l → length l ≤ MOST_FRAMES → kept_frames k (cut_after n l) ≡ whole_in n l
  unfolding kept_frames
  cut_kept k a f =
      rw (cut_payload, to_take MOST_FRAMES k (take n (joined l)), frames_cut k n l a) (take_all MOST_FRAMES (whole_in n l) (omega (arith, whole_few n l)))
