-- The end of demand 3, of each edit: "only the named fields, enclosing sizes, chunk offsets and, for a move, the box order
-- differ". That of a move is `move_order` and `move_differs`, that of a shift `shift_differs`. Assumes nothing.
use Rattle.std.specs.Prelude.{Option, Some, None}
use Prim.Native.Nat.{ℕ, ◌-◌, ◌≤◌, ◌<◌}
use native.Mathlib.Omega.{arith}
use mathlib.Core.Path.{◌≡◌, refl, ◌∙◌}
use mathlib.Core.Bool.{true}
use mathlib.Core.List.{List, [], ◌∷◌}
use lib.ListN.{length, length-append}
use Rattle.wire.specs.Numbers.{Bytes}
use Rattle.wire.proofs.Tests.{lt_yea, lt_nay, lt_or}
use Rattle.boxes.specs.Boxes.{boxes}
use Rattle.boxes.specs.Containers.{LONGEST}
use Rattle.movie.specs.declared.entry.Spot.{Spot}
use Rattle.movie.specs.Stsds.{Stsd, stsds}
use Rattle.movie.specs.Entries.{entries_of, entries_in, entries}
use Rattle.movie.specs.Named.{spot_in, In}
use Rattle.release.specs.Releases.{release_of}
use Rattle.entry_rules.specs.Decoders.{record_rule}
use Rattle.judge.specs.Acceptance.{Meets}
use Rattle.edit_offsets.specs.Close.{closed}
use Rattle.edit_offsets.specs.Settle.{settled}
use Rattle.edit_offsets.proofs.ClosedFile.{closed_kin, bytes_closed}
use Rattle.edit_offsets.proofs.Settled.{settled_length}
use Rattle.edit_replace.specs.Replace.{kind_at, record_at, record_replaced, replace_of}
use Rattle.edit_replace.proofs.Taking.{record_first}
use Rattle.edit_replace.proofs.Written.{past_none}
use Rattle.promise_kept.proofs.Closed.{closed_track}
use Rattle.promise_kept.proofs.Named.{entry_in_lem}
use Rattle.promise_differs.specs.Differs.{OnlyRecord, kept_of, Replaces, EntryReplaced}
use Rattle.promise_differs.proofs.Replacing.{record_differs}
use Rattle.promise_differs.proofs.OneTrack.{record_there, record_elsewhere}
use Rattle.promise_differs.proofs.OneEntry.{replaces_one}

-- ---- a replacement

in_not : (t n : ℕ) → In t n ≡ None → ⊥
in_not t n e = let z : ◌≡◌ {A = ℕ} 0 1 = cc in omega arith

-- an entry that is nowhere is past them all
nowhere_past : (l : List Stsd) (i : ℕ) → spot_in l i ≡ None → length (entries_in l) ≤ i
unfolding spot_in entries_in
nowhere_past [] i e = omega arith
nowhere_past (s ∷ l) i e =
    lt_or i (length (entries_of s)) (λ h. absurd (in_not (s.track - 1) i (lt_yea _ _ _ _ _ h refl ∙ e)))
    (λ h. let k = nowhere_past l (i - length (entries_of s)) (lt_nay _ _ _ _ _ h refl ∙ e) in rw length-append (omega arith))

-- "Replace decoder record of entry i": one that meets its rule, where the result is not too long
pub replace_differs : (xs : List ℕ) (i : ℕ) (new : List ℕ) → Bytes xs → Bytes new → Meets xs → record_rule (kind_at xs i) (release_of (boxes xs)) new ≡ true → length (replace_of xs i new) ≤ LONGEST → Replaces xs i new (replace_of xs i new)
unfolding replace_of record_replaced entries
replace_differs xs i new w v m r h = go (spot_in (stsds xs) (i - 1)) refl (rw settled_length at h)
  where
    few : length xs < 4294967296
    few = omega (arith, m.most)

    go : (s : Option Spot) → spot_in (stsds xs) (i - 1) ≡ s → length (record_at s (kept_of xs i) new (closed xs)) ≤ LONGEST → Replaces xs i new (settled xs (record_at s (kept_of xs i) new (closed xs)))
    go (Some at) e k =
        let s : length (record_at (In at.track at.nth) (kept_of xs i) new (closed xs)) < 4294967296 = omega arith in
        let q = entry_in_lem xs i w m (record_first xs i (release_of (boxes xs)) (kind_at xs i) new refl r) at.track at.nth e in
        let shut = bytes_closed xs w few in
        record {
          t = at.track;
          n = at.nth;
          spot = e;
          differs = closed_kin xs w few (OnlyRecord at.nth (kept_of xs i) new) _ (record_differs xs at.track at.nth (kept_of xs i) new (closed xs) v shut s);
          there = rw (closed_track xs w few at.track) at (record_there xs at.track at.nth (kept_of xs i) new (closed xs) v shut s (rw (closed_track xs w few at.track) (omega (arith, q.room))));
          elsewhere = λ u z. rw (closed_track xs w few u) at (record_elsewhere xs at.track at.nth (kept_of xs i) new (closed xs) v shut s u z);
        }
    go None e k = absurd (past_none xs i (release_of (boxes xs)) new (nowhere_past (stsds xs) (i - 1) e) refl r)

-- so entry i has the given record, and every other entry has its bytes
pub replace_entry : (xs : List ℕ) (i : ℕ) (new : List ℕ) → Bytes xs → Bytes new → Meets xs → record_rule (kind_at xs i) (release_of (boxes xs)) new ≡ true → length (replace_of xs i new) ≤ LONGEST
    → EntryReplaced xs i new (replace_of xs i new)
replace_entry xs i new w v m r h =
    let d = replace_differs xs i new w v m r h in
    record { differs = d; entry = replaces_one xs i new (replace_of xs i new) w m (record_first xs i (release_of (boxes xs)) (kind_at xs i) new refl r) (omega arith) d }
