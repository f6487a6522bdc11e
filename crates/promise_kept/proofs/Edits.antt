-- Demand 3 of each edit: what it makes of an accepted file is accepted, edits take it again, every track has the same samples, and
-- every chunk offset follows its `mdat`. Assumes nothing.
use Rattle.std.specs.Prelude.{Option, Some, None}
use Prim.Native.Nat.{ℕ, ◌-◌, ◌≤◌}
use mathlib.Core.Path.{◌≡◌, refl}
use mathlib.Core.Bool.{true}
use mathlib.Core.List.{List}
use lib.IntN.{ℤ}
use lib.ListN.{length}
use Rattle.wire.specs.Numbers.{Bytes}
use Rattle.boxes.specs.Containers.{LONGEST}
use Rattle.boxes.specs.Boxes.{HEAD, boxes}
use Rattle.clocks.specs.Clocks.{shift_time}
use Rattle.movie.specs.declared.entry.Spot.{Spot}
use Rattle.movie.specs.Stsds.{stsds}
use Rattle.movie.specs.Named.{spot_in, In}
use Rattle.entry_heads.specs.Heads.{head_size}
use Rattle.release.specs.Releases.{release_of}
use Rattle.entry_rules.specs.Decoders.{record_rule}
use Rattle.judge.specs.Acceptance.{Meets}
use Rattle.edit_offsets.specs.Close.{closed}
use Rattle.edit_offsets.specs.Settle.{settled}
use Rattle.edit_offsets.proofs.Settled.{settled_length}
use Rattle.edit_move.specs.Moving.{move_of}
use Rattle.edit_replace.specs.Replace.{kind_at, record_at, record_replaced, replace_of}
use Rattle.edit_shift.specs.Shift.{shift_of}
use Rattle.promise_kept.specs.Kept.{Keeps}
use Rattle.promise_kept.proofs.Content.{content_closed, content_then}
use Rattle.promise_kept.proofs.Second.{second}
use Rattle.promise_kept.proofs.Times.{shift_content}
use Rattle.promise_kept.proofs.Replacing.{record_content}
use Rattle.promise_kept.proofs.Keeping.{keeps, keeps_stay}

-- "Move: moov goes right after ftyp"
pub keeps_move : (xs : List ℕ) → Bytes xs → Meets xs → Keeps xs (move_of xs)
unfolding move_of
keeps_move xs w m = keeps second xs (closed xs) w m (content_closed (release_of (boxes xs)) xs w m.most)

-- "Shift times by z minutes"
pub keeps_shift : (z : ℤ) (xs : List ℕ) → Bytes xs → Meets xs → Keeps xs (shift_of z xs)
unfolding shift_of
keeps_shift z xs w m =
    let c = content_closed (release_of (boxes xs)) xs w m.most in
    keeps_stay xs _ w m (content_then c (shift_content (release_of (boxes xs)) (shift_time z) (closed xs) c.bytes c.small c.shut))

-- "Replace decoder record of entry i": one that meets its rule, where the result is not too long
pub keeps_replace : (xs : List ℕ) (i : ℕ) (new : List ℕ) → Bytes xs → Bytes new → Meets xs → record_rule (kind_at xs i) (release_of (boxes xs)) new ≡ true → length (replace_of xs i new) ≤ LONGEST → Keeps xs (replace_of xs i new)
unfolding replace_of record_replaced
keeps_replace xs i new w v m r h = go (spot_in (stsds xs) (i - 1)) refl (rw settled_length at h)
  where
    go : (s : Option Spot) → spot_in (stsds xs) (i - 1) ≡ s → length (record_at s (head_size (kind_at xs i) - HEAD) new (closed xs)) ≤ LONGEST → Keeps xs (settled xs (record_at s (head_size (kind_at xs i) - HEAD) new (closed xs)))
    go (Some at) e k = keeps_stay xs _ w m (record_content xs i new w m r at.track at.nth e v k)
    go None e k = keeps_stay xs (closed xs) w m (content_closed (release_of (boxes xs)) xs w m.most)
