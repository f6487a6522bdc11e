-- Rules 2 and 3 of one container, from what was gathered of it. Assumes nothing.
use Prim.Native.Nat.{ℕ, ◌≤◌}
use native.Mathlib.Omega.{arith}
use mathlib.Core.Path.{◌≡◌, refl, sym, ◌∙◌}
use mathlib.Core.Bool.{true}
use mathlib.Core.List.{List, [], ◌∷◌}
use Rattle.wire.specs.Tests.{if_eq}
use Rattle.wire.specs.Clauses.{every, one_if}
use Rattle.wire.proofs.Clauses.{is_eq_lem, is_le_lem, eq_is, clause, was_nay}
use Rattle.wire.proofs.Tests.{eq_any}
use Rattle.codes.specs.Codes.{FTYP, MOOV, MVHD, TRAK, TKHD, MDIA, MDHD, HDLR, MINF, DINF, DREF, STBL, STSD, STTS, STSC, STSZ, STCO}
use Rattle.boxes.specs.Box.{Box, is_open}
use Rattle.boxes.specs.Boxes.{boxes, tiles}
use Rattle.boxes.specs.Containers.{FILE}
use Rattle.boxes.specs.Seek.{count}
use Rattle.rule.specs.Rule.{all_list}
use Rattle.rule_shape.specs.Two.{may_have, shut_in}
use Rattle.rule_shape.specs.Three.{needed, exactly, first, besides, shape}
use Rattle.layout.specs.declared.gather.Slot.{Slot}
use Rattle.layout.specs.declared.gather.Want.{Want}
use Rattle.layout.specs.declared.gather.Five.{Five}
use Rattle.layout.specs.Slots.{slot_in, Stands, opens, alone_of, Gathered}
use Rattle.layout.specs.Track.{Has}

-- ---- each kind by its counts

module _ (l : List Box) where
  pub trak_shape : count TKHD l ≡ 1 → count MDIA l ≡ 1 → shape TRAK l ≡ true
  unfolding shape needed exactly besides if_eq every
  trak_shape a b = rw (is_eq_lem _ _ a, is_eq_lem _ _ b)

  pub mdia_shape : count MDHD l ≡ 1 → count HDLR l ≡ 1 → count MINF l ≡ 1 → shape MDIA l ≡ true
  unfolding shape needed exactly besides if_eq every
  mdia_shape a b c = rw (is_eq_lem _ _ a, is_eq_lem _ _ b, is_eq_lem _ _ c)

  pub minf_shape : count DINF l ≡ 1 → count STBL l ≡ 1 → shape MINF l ≡ true
  unfolding shape needed exactly besides if_eq every
  minf_shape a b = rw (is_eq_lem _ _ a, is_eq_lem _ _ b)

  pub dinf_shape : count DREF l ≡ 1 → shape DINF l ≡ true
  unfolding shape needed exactly besides if_eq every
  dinf_shape a = rw (is_eq_lem _ _ a)

  pub stbl_shape : count STSD l ≡ 1 → count STTS l ≡ 1 → count STSC l ≡ 1 → count STSZ l ≡ 1 → count STCO l ≡ 1 → shape STBL l ≡ true
  unfolding shape needed exactly besides if_eq every
  stbl_shape a b c d e = rw (is_eq_lem _ _ a, is_eq_lem _ _ b, is_eq_lem _ _ c, is_eq_lem _ _ d, is_eq_lem _ _ e)

  pub moov_shape : count MVHD l ≡ 1 → 1 ≤ count TRAK l → count TRAK l ≤ 4 → shape MOOV l ≡ true
  unfolding shape needed exactly besides if_eq every
  moov_shape a b c = rw (is_eq_lem _ _ a, is_le_lem _ _ b, is_le_lem _ _ c)

  pub file_shape : count FTYP l ≡ 1 → count MOOV l ≡ 1 → first l ≡ FTYP → shape FILE l ≡ true
  unfolding shape needed exactly besides if_eq every
  file_shape a b c = rw (is_eq_lem _ _ a, is_eq_lem _ _ b, is_eq_lem _ _ c)

-- ---- no box is open

shut_box : (i : ℕ) (x : Box) → one_if (is_open x.form) ≡ 0 → shut_in i x ≡ true
unfolding may_have
shut_box i x z = rw (was_nay (is_open x.form) 0 refl (sym z)) (eq_any (λ t. t ≡ true) i FILE true true refl refl)

pub none_open : (i : ℕ) (l : List Box) → opens l ≡ 0 → all_list (shut_in i) true l ≡ true
unfolding opens all_list
none_open i [] e = refl
none_open i (x ∷ l) e = rw (shut_box i x (omega arith)) (none_open i l (omega arith))

-- in the file's own list one may be
pub file_shut : (l : List Box) → all_list (shut_in FILE) true l ≡ true
unfolding may_have all_list if_eq
file_shut [] = refl
file_shut (x ∷ l) = file_shut l

-- ---- what was gathered

pub one_of : {xs : List ℕ} {o : Slot} {w : Want} {s : Slot} → Stands xs o w s → s.n ≡ 1 → count w.code (boxes (slot_in xs o)) ≡ 1
one_of k e = sym k.counted ∙ e

module _ {xs : List ℕ} {w : Slot} {a b c d e : Want} {g : Five} (k : Gathered xs w a b c d e g) (o : alone_of g ≡ true) where
  pub gathered_two : tiles (slot_in xs w) ≡ true
  gathered_two = k.tiled (clause 0 _ o)

  -- the kind is shaped where each code has one box
  pub gathered_has : (i : ℕ) → (count a.code (boxes (slot_in xs w)) ≡ 1 → count b.code (boxes (slot_in xs w)) ≡ 1
      → count c.code (boxes (slot_in xs w)) ≡ 1
      → count d.code (boxes (slot_in xs w)) ≡ 1 → count e.code (boxes (slot_in xs w)) ≡ 1 → shape i (boxes (slot_in xs w)) ≡ true) → Has i (slot_in xs w)
  gathered_has i f =
      record {
        two = gathered_two;
        shut = none_open i (boxes (slot_in xs w)) (k.shut (clause 1 _ o));
        three = f (one_of k.first (eq_is _ _ (clause 2 _ o))) (one_of k.second (eq_is _ _ (clause 3 _ o))) (one_of k.third (eq_is _ _ (clause 4 _ o)))
            (one_of k.fourth (eq_is _ _ (clause 5 _ o))) (one_of k.fifth (eq_is _ _ (clause 6 _ o)));
      }
