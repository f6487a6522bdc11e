-- "Replace decoder record of entry i": a content of the file. Assumes nothing.
use Prim.Native.Nat.{ℕ, ◌-◌, ◌≤◌, ◌<◌}
use native.Mathlib.Omega.{arith}
use mathlib.Core.Path.{◌≡◌, refl, sym, ap, subst, ◌∙◌}
use mathlib.Core.Bool.{true}
use mathlib.Core.List.{List, ◌++◌}
use lib.ListN.{length, take, drop, length-append}
use lib.Seq.{take_at, drop_at, length-take-le}
use Rattle.codes.specs.Codes.{STBL, STSD}
use Rattle.wire.specs.Numbers.{Bytes}
use Rattle.boxes.specs.Boxes.{HEAD, FRONT, boxes}
use Rattle.boxes.specs.Containers.{FILE, DEPTH, LONGEST}
use Rattle.boxes.specs.Seek.{ANY}
use Rattle.boxes.specs.Kin.{Kin}
use Rattle.boxes.specs.Way.{over_nth, over_turn, edit_way, tail_by}
use Rattle.boxes.proofs.Turning.{way_length}
use Rattle.boxes.proofs.Meaning.{meant_any}
use Rattle.boxes.proofs.Down.{Once}
use Rattle.boxes.proofs.OneOfList.{nth_by_lem}
use Rattle.boxes.proofs.OneOfPart.{boxes_nth, after_nth}
use Rattle.movie.specs.Movie.{track, sample_table}
use Rattle.movie.specs.Stsds.{stsds}
use Rattle.movie.specs.Named.{spot_in, In}
use Rattle.entry_heads.specs.Heads.{head_size}
use Rattle.release.specs.Releases.{release_of}
use Rattle.entry_rules.specs.Decoders.{record_rule}
use Rattle.judge.specs.Acceptance.{Meets}
use Rattle.edit_offsets.specs.Close.{closed}
use Rattle.edit_replace.specs.Replace.{kind_at, record_at}
use Rattle.edit_replace.proofs.Changing.{stsd_end, to_entry, record_bytes, record_kin}
use Rattle.edit_replace.proofs.Taking.{record_short, record_first}
use Rattle.promise_kept.proofs.Changed.{Changed}
use Rattle.promise_kept.proofs.Content.{Content, content_closed, content_then}
use Rattle.promise_kept.proofs.Closed.{closed_track}
use Rattle.promise_kept.proofs.Once.{once_content}
use Rattle.promise_kept.proofs.Named.{EntryIn, entry_in_lem}

module _ (xs : List ℕ) (i : ℕ) (new : List ℕ) (w : Bytes xs) (m : Meets xs) (r : record_rule (kind_at xs i) (release_of (boxes xs)) new ≡ true) (t n : ℕ) (e : spot_in (stsds xs) (i - 1) ≡ In t n) where
  abbrev keep : ℕ
  keep = head_size (kind_at xs i) - HEAD

  -- the `stsd` of track t
  abbrev stsd : List ℕ
  stsd = sample_table STSD (track xs t)

  abbrev s : EntryIn xs i t n
  s = entry_in_lem xs i w m (record_first xs i (release_of (boxes xs)) (kind_at xs i) new refl r) t n e

  abbrev by : List ℕ → List ℕ
  by = tail_by keep new

  -- the `stsd` with the given record
  abbrev changed_stsd : List ℕ
  changed_stsd = edit_way (to_entry n) (tail_by (head_size (kind_at xs i) - HEAD) new) (sample_table STSD (track xs t))

  open_it : changed_stsd ≡ take FRONT stsd ++ over_nth ANY n by (drop FRONT stsd)
  unfolding edit_way over_turn
  open_it = refl

  small : length (over_nth ANY n by (drop FRONT stsd)) < 4294967296
  small =
      let l = ap length open_it ∙ length-append (take FRONT stsd) (over_nth ANY n by (drop FRONT stsd)) in
      omega (arith, l, m.most, s.short, way_length (to_entry n) keep new stsd, (record_short (kind_at xs i) (release_of (boxes xs)) new r).1)

  behind : drop FRONT changed_stsd ≡ over_nth ANY n by (drop FRONT stsd)
  behind = ap (drop FRONT) open_it ∙ drop_at (take FRONT stsd) (over_nth ANY n by (drop FRONT stsd)) FRONT (length-take-le FRONT stsd s.room)

  -- the entry has the given record, and all else stays
  stsd_changed : Changed (release_of (boxes xs)) new (sample_table STSD (track xs t)) changed_stsd
  stsd_changed =
      record {
        kind = kind_at xs i;
        before = s.before;
        entry = s.box;
        past = s.past;
        old = s.list;
        made = rw (behind, boxes_nth ANY n by (drop FRONT stsd) s.filled small, s.list) (nth_by_lem ANY by n s.before s.box s.past s.nth (sym (meant_any ANY s.box.code refl)));
        room = s.room;
        front = ap (take FRONT) open_it ∙ take_at (take FRONT stsd) (over_nth ANY n by (drop FRONT stsd)) FRONT (length-take-le FRONT stsd s.room);
        rest = rw behind (after_nth ANY n by (drop FRONT stsd) s.filled small);
        good = s.good;
        plain = s.plain;
        is = s.kind;
        meets = r;
      }

  -- ---- the file, closed

  -- one entry of the file has another decoder record
  pub record_content : Bytes new → length (record_at (In t n) (head_size (kind_at xs i) - HEAD) new (closed xs)) ≤ LONGEST → Content (release_of (boxes xs)) xs (record_at (In t n) (head_size (kind_at xs i) - HEAD) new (closed xs))
  record_content v h =
      let c = content_closed (release_of (boxes xs)) xs w m.most in
      content_then c (once_content (sample_table STSD (track xs t)) changed_stsd (release_of (boxes xs)) new stsd_changed (closed xs) _
      (subst (λ (b : List ℕ). Kin (Once STBL STSD b (edit_way (to_entry n) by b)) DEPTH FILE (closed xs) (record_at (In t n) keep new (closed xs))) (stsd_end t (closed xs) ∙ ap (sample_table STSD) (closed_track xs w (omega (arith, m.most)) t)) (record_kin t n keep new (closed xs) v c.bytes (omega arith)))
      (record_bytes t n keep new (closed xs) v c.bytes) h c.shut)
