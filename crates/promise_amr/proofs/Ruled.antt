-- A rule of the file that frames become, asked of each of its containers and of each opaque box in them. Assumes nothing.
use Prim.Native.Nat.{ℕ}
use native.Mathlib.Omega.{arith}
use mathlib.Core.Path.{◌≡◌, refl}
use mathlib.Core.Bool.{Bool, true}
use mathlib.Core.List.{List, [], ◌∷◌}
use lib.ListN.{length}
use Rattle.wire.specs.Tests.{if_eq}
use Rattle.wire.specs.Clauses.{every}
use Rattle.wire.proofs.Clauses.{clause}
use Rattle.codes.specs.Codes.{FTYP, MOOV, MVHD, TRAK, TKHD, MDIA, MDHD, HDLR, MINF, SMHD, DINF, DREF, STBL, STSD, STTS, STSC, STSZ, STCO, MDAT}
use Rattle.boxes.specs.Box.{write}
use Rattle.boxes.specs.Containers.{FILE, DEPTH, parent, kind_in}
use Rattle.boxes.proofs.Reading.All.{none, some}
use Rattle.frames.specs.declared.codec.Codec.{Codec}
use Rattle.frames.specs.Frames.{joined}
use Rattle.frames.specs.Modes.{mode_set}
use Rattle.rule.specs.Rule.{Rule, all_in}
use Rattle.from_amr.specs.Boxes.{scale_by, ftyp, mvhd, tkhd, mdhd, hdlr, smhd, dref, stsd, stts, stsc, stsz, stco}
use Rattle.from_amr.specs.File.{ticks_of, stbl_boxes, dinf_boxes, minf_boxes, mdia_boxes, trak_boxes, moov_boxes, start, file_boxes, file_of}
use Rattle.promise_amr.proofs.Written.{of_list, of_leaf, of_node}
use Rattle.promise_amr.proofs.Reading.{Reads}

module _ (k : Codec) (l : List (List ℕ)) where
  -- of the containers, and of the opaque boxes, in file order
  abbrev pub of_nodes : Rule → Bool
  of_nodes r =
      every
      (r.node FILE (write (file_boxes k l))
      ∷ r.node MOOV (write (moov_boxes k l (start k l)))
      ∷ r.node TRAK (write (trak_boxes k l (start k l)))
      ∷ r.node MDIA (write (mdia_boxes k l (start k l)))
      ∷ r.node MINF (write (minf_boxes k l (start k l)))
      ∷ r.node DINF (write dinf_boxes)
      ∷ r.node STBL (write (stbl_boxes k l (start k l)))
      ∷ [])

  abbrev pub of_leaves : Rule → Bool
  of_leaves r =
      every
      (r.leaf FILE FTYP ftyp
      ∷ r.leaf MOOV MVHD (mvhd (scale_by k) (ticks_of k l))
      ∷ r.leaf TRAK TKHD (tkhd (ticks_of k l))
      ∷ r.leaf MDIA MDHD (mdhd (scale_by k) (ticks_of k l))
      ∷ r.leaf MDIA HDLR hdlr
      ∷ r.leaf MINF SMHD smhd
      ∷ r.leaf DINF DREF dref
      ∷ r.leaf STBL STSD (stsd k (mode_set l))
      ∷ r.leaf STBL STTS (stts k (length l))
      ∷ r.leaf STBL STSC (stsc (length l))
      ∷ r.leaf STBL STSZ (stsz l)
      ∷ r.leaf STBL STCO (stco (length l) (start k l))
      ∷ r.leaf FILE MDAT (joined l)
      ∷ [])

  module _ (b : Reads k l) (r : Rule) (n : of_nodes r ≡ true) (v : of_leaves r ≡ true) (e : r.end [] ≡ true) where
    in_stbl : all_in r 1 STBL (write (stbl_boxes k l (start k l))) ≡ true
    unfolding kind_in parent if_eq
    in_stbl =
        of_list r 0 STBL b.stbl (clause 6 _ n) e
        (some (of_leaf r 0 STBL STSD _ refl (clause 7 _ v)) (some (of_leaf r 0 STBL STTS _ refl (clause 8 _ v))
        (some (of_leaf r 0 STBL STSC _ refl (clause 9 _ v))
        (some (of_leaf r 0 STBL STSZ _ refl (clause 10 _ v)) (some (of_leaf r 0 STBL STCO _ refl (clause 11 _ v)) none)))))

    in_minf : all_in r 2 MINF (write (minf_boxes k l (start k l))) ≡ true
    unfolding kind_in parent if_eq
    in_minf =
        of_list r 1 MINF b.minf (clause 4 _ n) e
        (some (of_leaf r 1 MINF SMHD _ refl (clause 5 _ v))
        (some (of_node r 1 MINF DINF _ refl (λ z. omega arith)
        (of_list r 0 DINF b.dinf (clause 5 _ n) e (some (of_leaf r 0 DINF DREF _ refl (clause 6 _ v)) none)))
        (some (of_node r 1 MINF STBL _ refl (λ z. omega arith) in_stbl) none)))

    in_trak : all_in r 4 TRAK (write (trak_boxes k l (start k l))) ≡ true
    unfolding kind_in parent if_eq
    in_trak =
        of_list r 3 TRAK b.trak (clause 2 _ n) e
        (some (of_leaf r 3 TRAK TKHD _ refl (clause 2 _ v))
        (some (of_node r 3 TRAK MDIA _ refl (λ z. omega arith)
        (of_list r 2 MDIA b.mdia (clause 3 _ n) e
        (some (of_leaf r 2 MDIA MDHD _ refl (clause 3 _ v)) (some (of_leaf r 2 MDIA HDLR _ refl (clause 4 _ v))
        (some (of_node r 2 MDIA MINF _ refl (λ z. omega arith) in_minf) none)))))
        none))

    pub holds : all_in r DEPTH FILE (file_of k l) ≡ true
    unfolding file_of kind_in parent if_eq
    holds =
        of_list r 5 FILE b.file (clause 0 _ n) e
        (some (of_leaf r 5 FILE FTYP _ refl (clause 0 _ v))
        (some (of_node r 5 FILE MOOV _ refl (λ z. omega arith)
        (of_list r 4 MOOV b.moov (clause 1 _ n) e
        (some (of_leaf r 4 MOOV MVHD _ refl (clause 1 _ v)) (some (of_node r 4 MOOV TRAK _ refl (λ z. omega arith) in_trak) none))))
        (some (of_leaf r 5 FILE MDAT _ refl (clause 12 _ v)) none)))
