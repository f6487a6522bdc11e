-- How long the file of frames is, and where its `mdat` starts. Assumes nothing.
use Prim.Native.Nat.{ℕ, ◌+◌, ◌*◌}
use native.Mathlib.Omega.{arith}
use mathlib.Core.Path.{◌≡◌, refl, sym, ap, ◌∙◌}
use mathlib.Core.List.{List, [], ◌∷◌}
use lib.ListN.{length, length-append}
use Rattle.wire.proofs.Numbers.{length_bytes_lem}
use Rattle.wire.proofs.Tests.{eq_or, eq_yea, eq_nay}
use Rattle.codes.specs.Codes.{URL, MDAT}
use Rattle.boxes.specs.Box.{Box, plain_box, write}
use Rattle.boxes.proofs.Reading.{length_cons, write_append}
use Rattle.entry_records.proofs.Lengths.{amr_length}
use Rattle.frames.specs.declared.codec.Codec.{Codec}
use Rattle.frames.specs.Frames.{joined}
use Rattle.from_amr.specs.Fields.{fields, span}
use Rattle.from_amr.specs.Boxes.{ftyp, mvhd, tkhd, mdhd, hdlr, smhd, dref, entry_by, stsd, one_for, sizes_of, stsz}
use Rattle.from_amr.specs.File.{stbl_boxes, dinf_boxes, minf_boxes, mdia_boxes, trak_boxes, moov_boxes, ftyp_box, moov_box, start, StartsAt, file_of}
use Rattle.from_amr.proofs.Writing.{length_fields}

-- ---- boxes

none_long : length (write []) ≡ 0
unfolding write
none_long = refl

one_long : (c : ℕ) (b : List ℕ) (l : List Box) {m n : ℕ} → length b ≡ m → length (write l) ≡ n → length (write (plain_box c b ∷ l)) ≡ 8 + (m + n)
one_long c b l e f = rw (← e, ← f) (length_cons (plain_box c b) l)

-- ---- payloads

ftyp_length : length ftyp ≡ 16
unfolding ftyp
ftyp_length = length_fields _

mvhd_length : (scale ticks : ℕ) → length (mvhd scale ticks) ≡ 100
unfolding mvhd
mvhd_length scale ticks = length_fields _

tkhd_length : (ticks : ℕ) → length (tkhd ticks) ≡ 84
unfolding tkhd
tkhd_length ticks = length_fields _

mdhd_length : (scale ticks : ℕ) → length (mdhd scale ticks) ≡ 24
unfolding mdhd
mdhd_length scale ticks = length_fields _

hdlr_length : length hdlr ≡ 25
unfolding hdlr
hdlr_length = length_fields _

smhd_length : length smhd ≡ 8
unfolding smhd
smhd_length = length_fields _

dref_length : length dref ≡ 20
unfolding dref
dref_length = rw (length-append, length_fields (4 ∷ 0 ∷ 4 ∷ 1 ∷ []), one_long URL (fields (4 ∷ 1 ∷ [])) [] (length_fields (4 ∷ 1 ∷ [])) none_long)

stsd_length : (k : Codec) (modes : ℕ) → length (stsd k modes) ≡ 61
unfolding stsd
stsd_length k modes = rw (length-append, length_fields (4 ∷ 0 ∷ 4 ∷ 1 ∷ []), amr_length (entry_by k modes))

sizes_length : (l : List (List ℕ)) → length (sizes_of l) ≡ 4 * length l
unfolding sizes_of
sizes_length [] = refl
sizes_length (f ∷ l) = rw (length-append, length_bytes_lem 4 (length f), sizes_length l) (omega arith)

pub stsz_length : (l : List (List ℕ)) → length (stsz l) ≡ 12 + 4 * length l
unfolding stsz
stsz_length l = rw (length-append, length_fields (4 ∷ 0 ∷ 4 ∷ 0 ∷ 4 ∷ length l ∷ []), sizes_length l)

module _ (n : ℕ) (item : List ℕ) where
  one_for_none : n ≡ 0 → length (one_for n item) ≡ 8
  unfolding one_for
  one_for_none h = ap length (sym (eq_yea n 0 _ _ _ h refl)) ∙ length_fields (4 ∷ 0 ∷ 4 ∷ 0 ∷ [])

  one_for_some : (n ≡ 0 → ⊥) → length (one_for n item) ≡ span (4 ∷ 0 ∷ 4 ∷ 1 ∷ item)
  unfolding one_for
  one_for_some h = ap length (sym (eq_nay n 0 _ _ _ h refl)) ∙ length_fields (4 ∷ 0 ∷ 4 ∷ 1 ∷ item)

-- ---- containers

module _ (k : Codec) (l : List (List ℕ)) (offset : ℕ) where
  tables_none : length l ≡ 0 → length (write (stbl_boxes k l offset)) ≡ 137
  tables_none h =
      one_long _ _ _ (stsd_length k _) (one_long _ _ _ (one_for_none (length l) _ h) (one_long _ _ _ (one_for_none (length l) _ h)
      (one_long _ _ _ (stsz_length l) (one_long _ _ _ (one_for_none (length l) _ h) none_long)))) ∙ omega arith

  tables_some : (length l ≡ 0 → ⊥) → length (write (stbl_boxes k l offset)) ≡ 161 + 4 * length l
  tables_some h =
      one_long _ _ _ (stsd_length k _) (one_long _ _ _ (one_for_some (length l) _ h) (one_long _ _ _ (one_for_some (length l) _ h)
      (one_long _ _ _ (stsz_length l) (one_long _ _ _ (one_for_some (length l) _ h) none_long)))) ∙ omega arith

  pub dinf_length : length (write dinf_boxes) ≡ 28
  dinf_length = one_long _ _ _ dref_length none_long

  minf_length : length (write (minf_boxes k l offset)) ≡ 60 + length (write (stbl_boxes k l offset))
  minf_length = one_long _ _ _ smhd_length (one_long _ _ _ dinf_length (one_long _ _ _ refl none_long)) ∙ omega arith

  mdia_length : length (write (mdia_boxes k l offset)) ≡ 133 + length (write (stbl_boxes k l offset))
  mdia_length = one_long _ _ _ (mdhd_length _ _) (one_long _ _ _ hdlr_length (one_long _ _ _ minf_length none_long)) ∙ omega arith

  trak_length : length (write (trak_boxes k l offset)) ≡ 233 + length (write (stbl_boxes k l offset))
  trak_length = one_long _ _ _ (tkhd_length _) (one_long _ _ _ mdia_length none_long) ∙ omega arith

  moov_length : length (write (moov_boxes k l offset)) ≡ 349 + length (write (stbl_boxes k l offset))
  moov_length = one_long _ _ _ (mvhd_length _ _) (one_long _ _ _ trak_length none_long) ∙ omega arith

  front_length : length (write (ftyp_box ∷ moov_box k l offset ∷ [])) ≡ 381 + length (write (stbl_boxes k l offset))
  front_length = one_long _ _ _ ftyp_length (one_long _ _ _ moov_length none_long) ∙ omega arith

-- ---- the file

module _ (k : Codec) (l : List (List ℕ)) where
  pub start_none : length l ≡ 0 → start k l ≡ 526
  unfolding start
  start_none h = rw (front_length k l 0, tables_none k l 0 h)

  pub start_some : (length l ≡ 0 → ⊥) → start k l ≡ 550 + 4 * length l
  unfolding start
  start_some h = rw (front_length k l 0, tables_some k l 0 h) (omega arith)

  -- whatever the offset
  pub start_is : (offset : ℕ) → length (write (ftyp_box ∷ moov_box k l offset ∷ [])) + 8 ≡ start k l
  start_is offset =
      eq_or (length l) 0
      (λ h. rw (front_length k l offset, tables_none k l offset h, start_none h))
      (λ h. rw (front_length k l offset, tables_some k l offset h, start_some h) (omega arith))

  pub length_file : length (file_of k l) ≡ start k l + length (joined l)
  unfolding file_of
  length_file =
      let e = write_append (ftyp_box ∷ moov_box k l (start k l) ∷ []) (plain_box MDAT (joined l) ∷ []) in
      let m = one_long MDAT (joined l) [] refl none_long in
      rw (e, length-append) (omega (arith, start_is (start k l), m))

pub starts_none : StartsAt 0 526
starts_none = record { is = λ k l h. sym (start_none k l h) }

pub starts_some : (n : ℕ) → (n ≡ 0 → ⊥) → StartsAt n (550 + 4 * n)
starts_some n h = record { is = λ k l e. sym (start_some k l (λ z. h (sym e ∙ z)) ∙ rw e) }
