-- Of the top-level boxes only `moov` changes, so a chunk offset past it moves by as much as the file grows. Assumes nothing.
use Prim.Native.Nat.{ℕ, ◌+◌, ◌≤◌, ◌<◌}
use native.Mathlib.Omega.{arith}
use mathlib.Core.Path.{◌≡◌, refl, ap, ◌∙◌}
use mathlib.Core.List.{List, ◌∷◌, ◌++◌}
use mathlib.Core.Logic.{⊎_elim}
use lib.ListN.{length}
use Rattle.wire.specs.Numbers.{Bytes}
use Rattle.codes.specs.Codes.{MOOV, TRAK, MDIA, MINF, STBL, STSD}
use Rattle.boxes.specs.declared.walk.BoxAt.{BoxAt}
use Rattle.boxes.specs.Boxes.{boxes, after}
use Rattle.boxes.specs.Containers.{FILE, DEPTH}
use Rattle.boxes.specs.Walk.{payload, box_at}
use Rattle.boxes.specs.Seek.{Cut}
use Rattle.boxes.specs.Words.{moved, reword_leaf}
use Rattle.boxes.specs.Way.{nth_by, over_nth, over_turn, edit_way, tail_by}
use Rattle.boxes.specs.Rewrite.{edit_in}
use Rattle.boxes.proofs.OneOfList.{nth_by_lem}
use Rattle.boxes.proofs.OneOfPart.{boxes_nth, after_nth}
use Rattle.boxes.proofs.Down.{Once}
use Rattle.boxes.proofs.InMoov.{OneMoov}
use Rattle.judge.specs.Acceptance.{Meets}
use Rattle.edit_offsets.specs.Close.{shut_at, closed}
use Rattle.edit_offsets.specs.Settle.{offsets, settled}
use Rattle.edit_offsets.proofs.ClosedFile.{after_closed, bytes_closed, closed_kin}
use Rattle.edit_offsets.proofs.Settled.{settled_kin, settled_same}
use Rattle.edit_replace.specs.Replace.{turn, record_at}
use Rattle.edit_replace.specs.Fitting.{grown, grown_box}
use Rattle.edit_replace.proofs.Shutting.{boxes_shut}
use Rattle.edit_replace.proofs.Standing.{made, moov_moves, moov_alike, moov_stands, moov_inside}
use Rattle.edit_replace.proofs.Changing.{to_entry, record_bytes, record_kin}
use Rattle.movie.specs.Named.{In}

module _ (t n keep : ℕ) (new xs : List ℕ) (w : Bytes new) (v : Bytes xs) (m : Meets xs) (s : length (record_at (In t n) keep new (closed xs)) < 4294967296)
    {b : BoxAt} (c : Cut xs MOOV 0 b) where
  abbrev zs : List ℕ
  zs = record_at (In t n) keep new (closed xs)

  -- what stands in `moov`
  abbrev in_moov : List ℕ → List ℕ
  in_moov ys = edit_way (turn TRAK t ∷ turn MDIA 0 ∷ turn MINF 0 ∷ turn STBL 0 ∷ turn STSD 0 ∷ to_entry n) (tail_by keep new) ys

  abbrev body : List ℕ
  body = in_moov (payload xs b)

  by_moov : zs ≡ over_nth MOOV 0 in_moov (closed xs)
  unfolding edit_way over_turn
  by_moov = refl

  few : length xs < 4294967296
  few = omega (arith, m.most)

  bytes_shut : Bytes (closed xs)
  bytes_shut = bytes_closed xs v few

  pub record_filled : Bytes zs
  record_filled = record_bytes t n keep new (closed xs) w bytes_shut

  -- the same boxes but for `moov`, and the same end
  boxes_are : boxes zs ≡ c.p ++ made xs zs body v m c ∷ c.q
  boxes_are =
      rw by_moov (boxes_nth MOOV 0 in_moov (closed xs) bytes_shut (rw by_moov at s)) ∙ ap (nth_by MOOV 0 in_moov) (boxes_shut xs v m c)
      ∙ nth_by_lem MOOV in_moov 0 c.p (box_at xs (shut_at b)) c.q c.nth c.hit

  end_is : after zs ≡ after xs
  end_is = rw by_moov (after_nth MOOV 0 in_moov (closed xs) bytes_shut (rw by_moov at s)) ∙ after_closed xs v few

  -- every offset as far into the same payload as it was
  pub record_settled : edit_in (reword_leaf offsets (moved (grown b (length zs) (length xs)))) DEPTH FILE zs ≡ settled xs zs
  record_settled =
      settled_kin xs zs (moved (grown b (length zs) (length xs))) m (moov_moves xs zs body v m c boxes_are end_is) (Once STBL STSD _ _)
      (λ d e r. ⊎_elim (λ q. q) (λ q. absurd (omega (arith, q.1))) r) (closed_kin xs v few (Once STBL STSD _ _) zs (record_kin t n keep new (closed xs) w bytes_shut s))

  -- a record of the same length moves nothing
  pub still : length zs ≡ length xs → settled xs zs ≡ zs
  still e = settled_same xs zs (moov_alike xs zs body v m c boxes_are end_is e) record_filled

  -- `moov` where it then stands
  abbrev there : BoxAt
  there = grown_box (shut_at b) (length zs) (length xs)

  pub only : OneMoov zs there
  only = moov_stands xs zs body v m c boxes_are end_is

  pub there_inside : (there.head ≤ there.span) × (there.at + there.span ≤ length zs) × (length xs ≤ b.span + length zs)
  there_inside = moov_inside xs zs body v m c boxes_are end_is
