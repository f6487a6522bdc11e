-- What code writes is the file with its `moov` closed and second, and every chunk offset as far into its payload as it was. Assumes nothing.
use Prim.Native.Nat.{ℕ, ◌≤◌}
use native.Mathlib.Omega.{arith}
use mathlib.Core.Path.{◌≡◌, refl, sym, ap, ◌∙◌}
use mathlib.Core.Bool.{true}
use mathlib.Core.List.{List, [], ◌∷◌, ◌++◌}
use lib.ListN.{length, drop}
use Rattle.codes.specs.Codes.{MOOV}
use Rattle.wire.specs.Numbers.{Bytes}
use Rattle.wire.specs.Writing.{Wrote, Put}
use Rattle.wire.proofs.Writing.{pen_front}
use Rattle.boxes.specs.declared.walk.BoxAt.{BoxAt}
use Rattle.boxes.specs.Box.{size, write}
use Rattle.boxes.specs.Boxes.{boxes, total}
use Rattle.boxes.specs.Rewrite.{edit_in, in_body}
use Rattle.boxes.specs.Walk.{payload, box_at}
use Rattle.boxes.specs.Words.{reword_leaf, moved}
use Rattle.boxes.proofs.Whole.{head_least}
use Rattle.boxes.proofs.Written.{boxes_all}
use Rattle.boxes.proofs.Reading.{Shut, parts}
use Rattle.boxes.specs.Kin.{All2}
use Rattle.boxes.specs.Kin.All2.{cons}
use Rattle.boxes.proofs.Rewriting.{bytes_write}
use Rattle.boxes.proofs.InMoov.{OneMoov}
use Rattle.mdat.specs.Payloads.{mdats, in_at}
use Rattle.mdat.specs.Relocate.{relocate, Alike}
use Rattle.mdat.proofs.Payloads.{mdats_miss}
use Rattle.mdat.proofs.Staying.{alike_refl, relocate_like}
use Rattle.mdat.proofs.Amounts.{Fronts, moved_front}
use Rattle.judge.specs.Acceptance.{Meets}
use Rattle.edit_offsets.specs.Close.{shut_box, closed, closed_at}
use Rattle.edit_offsets.specs.Settle.{offsets}
use Rattle.edit_offsets.proofs.Settled.{settled_length, settled_list}
use Rattle.edit_offsets.proofs.InMoov.{settle_file}
use Rattle.edit_offsets.proofs.Closing.{form_head, shut_size, shut_each, moovs_shut}
use Rattle.edit_offsets.proofs.ClosedFile.{after_closed, bytes_closed}
use Rattle.edit_offsets.proofs.Accepted.{file_tiled}
use Rattle.edit_move.specs.Moving.{moov_second, move_of}
use Rattle.edit_move.specs.Arrange.{arranged, up, moov_at}
use Rattle.edit_move.proofs.Sifting.{each_second}
use Rattle.edit_move.proofs.Shutting.{shut_second}
use Rattle.edit_move.proofs.Pieces.{pieces_length}
use Rattle.edit_move.proofs.Parted.{Parted}
use Rattle.edit_move.proofs.Arranged.{others_none, shut_is, second_shut, closed_is, second_long}

module _ (xs : List ℕ) (v : Bytes xs) (m : Meets xs) {b : BoxAt} (p : Parted xs b) where
  abbrev zs : List ℕ
  zs = write (moov_second (boxes (closed xs)))

  -- ---- the chunk offsets

  shut_all : Shut [] (boxes (closed xs))
  shut_all = rw (after_closed xs v (omega (arith, m.most)) ∙ file_tiled xs m) at (parts (closed xs) (bytes_closed xs v (omega (arith, m.most)))).shut

  new_boxes : boxes zs ≡ moov_second (boxes (closed xs))
  new_boxes =
      boxes_all (each_second (parts (closed xs) (bytes_closed xs v (omega (arith, m.most)))).good)
      (shut_second (rw (shut_is xs v m p) (moovs_shut (boxes xs))) shut_all) (omega (arith, (second_long xs v m p), m.most))

  fronts : Fronts (p.ftyp ∷ []) p.mid (box_at xs b) (up b)
  unfolding total
  fronts = record { limit = omega (arith, p.at, p.span); low = p.span; high = refl; less = refl }

  second_alike : All2 Alike (p.ftyp ∷ (box_at xs b ∷ (p.mid ++ p.end))) (p.ftyp ∷ (shut_box (box_at xs b) ∷ (p.mid ++ p.end)))
  second_alike = cons (record { head = refl; code = refl; long = refl }) (cons (record { head = sym (form_head b.code b.form); code = refl; long = refl }) (alike_refl (p.mid ++ p.end)))

  relocates : (o n : ℕ) → in_at (boxes xs) o n ≡ true → moved (up b) o ≡ relocate (boxes xs) (boxes zs) o
  unfolding mdats
  relocates o n h =
      rw (new_boxes, (second_shut xs v m p), p.list)
      (moved_front (p.ftyp ∷ []) p.mid p.end (box_at xs b) (λ e. omega (arith, p.moov)) (mdats_miss p.ftyp (λ e. omega (arith, p.name)) []) (omega (arith, head_least b.form)) (up b) fronts o n (rw p.list at h)
      ∙ relocate_like (p.ftyp ∷ (p.mid ++ box_at xs b ∷ p.end)) second_alike o)

  only : OneMoov zs (moov_at (size p.ftyp) b)
  unfolding total
  only =
      record {
        p = p.ftyp ∷ [];
        x = shut_box (box_at xs b);
        q = p.mid ++ p.end;
        list = new_boxes ∙ (second_shut xs v m p);
        code = p.moov;
        before = (others_none xs v m p).0;
        behind = (others_none xs v m p).1;
        at = omega arith;
        head = p.head ∙ sym (form_head b.code b.form);
        span = p.span ∙ sym (shut_size (box_at xs b));
      }

  -- ---- what code leaves

  pub moved_wrote : {out mid shut after : List ℕ} {n : ℕ} → Put (arranged (size p.ftyp) b xs) out 0 n mid → n ≤ length out → shut ≡ closed_at (moov_at (size p.ftyp) b) mid
      → after ≡ in_body shut (moov_at (size p.ftyp) b) (edit_in (reword_leaf offsets (moved (up b))) 5 MOOV (payload shut (moov_at (size p.ftyp) b))) → Wrote (move_of xs) out n after
  unfolding move_of
  moved_wrote {out = out} {n = n} s l e q =
      let w = pen_front s l in
      let c = e ∙ ap (closed_at (moov_at (size p.ftyp) b)) w.is ∙ closed_is xs v m p (drop n out) in
      let k = settle_file (moved (up b)) zs (drop n out) (bytes_write (each_second (parts (closed xs) (bytes_closed xs v (omega (arith, m.most)))).filled)) only c q in
      let z = settled_list xs zs (moved (up b)) m relocates (λ P a. rw (new_boxes, (shut_is xs v m p)) (each_second (shut_each (λ x h. h) a))) in
      record { span = w.span ∙ pieces_length _ b xs from p.inside ∙ sym (second_long xs v m p) ∙ sym (settled_length xs zs); is = k ∙ ap (λ (ys : List ℕ). ys ++ drop n out) z }
    where
      from : size p.ftyp ≤ b.at
      from = omega (arith, p.at)
