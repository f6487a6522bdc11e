-- The file that frames become, read back: the boxes of each container. Assumes nothing.
use Prim.Native.Nat.{ℕ, ◌≤◌}
use native.Mathlib.Omega.{arith}
use mathlib.Core.Path.{refl}
use mathlib.Core.List.{List, [], ◌∷◌}
use lib.ListN.{length}
use Rattle.codes.specs.Codes.{MVHD, TRAK, TKHD, MDIA, MDHD, HDLR, MINF, SMHD, DINF, STBL, MDAT}
use Rattle.boxes.specs.Box.{plain_box, write}
use Rattle.boxes.specs.Containers.{LONGEST}
use Rattle.frames.specs.declared.codec.Codec.{Codec}
use Rattle.frames.specs.Frames.{joined}
use Rattle.from_amr.specs.Boxes.{scale_by, mvhd, tkhd, mdhd, hdlr, smhd}
use Rattle.from_amr.specs.File.{ticks_of, stbl_boxes, dinf_boxes, minf_boxes, mdia_boxes, trak_boxes, moov_boxes, ftyp_box, moov_box, start, file_boxes, file_of}
use Rattle.promise_amr.proofs.Written.{ReadBack, read_back, body_short}

module _ (k : Codec) (l : List (List ℕ)) where
  pub record Reads : Type 0 where
    pub file : ReadBack (file_boxes k l)
    pub moov : ReadBack (moov_boxes k l (start k l))
    pub trak : ReadBack (trak_boxes k l (start k l))
    pub mdia : ReadBack (mdia_boxes k l (start k l))
    pub minf : ReadBack (minf_boxes k l (start k l))
    pub dinf : ReadBack dinf_boxes
    pub stbl : ReadBack (stbl_boxes k l (start k l))

  pub reads : length (file_of k l) ≤ LONGEST → Reads
  unfolding file_of
  reads s =
      let o = start k l in
      let moov = body_short (ftyp_box ∷ []) (moov_box k l o) (plain_box MDAT (joined l) ∷ []) in
      let trak = body_short (plain_box MVHD (mvhd (scale_by k) (ticks_of k l)) ∷ []) (plain_box TRAK (write (trak_boxes k l o))) [] in
      let mdia = body_short (plain_box TKHD (tkhd (ticks_of k l)) ∷ []) (plain_box MDIA (write (mdia_boxes k l o))) [] in
      let minf = body_short (plain_box MDHD (mdhd (scale_by k) (ticks_of k l)) ∷ plain_box HDLR hdlr ∷ []) (plain_box MINF (write (minf_boxes k l o))) [] in
      let dinf = body_short (plain_box SMHD smhd ∷ []) (plain_box DINF (write dinf_boxes)) (plain_box STBL (write (stbl_boxes k l o)) ∷ []) in
      let stbl = body_short (plain_box SMHD smhd ∷ plain_box DINF (write dinf_boxes) ∷ []) (plain_box STBL (write (stbl_boxes k l o))) [] in
      record {
        file = read_back _ refl (omega arith);
        moov = read_back _ refl (omega arith);
        trak = read_back _ refl (omega arith);
        mdia = read_back _ refl (omega arith);
        minf = read_back _ refl (omega arith);
        dinf = read_back _ refl (omega arith);
        stbl = read_back _ refl (omega arith);
      }
