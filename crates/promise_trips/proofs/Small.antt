-- Every entry lies in its file, so that its place and its length fit a slot. Assumes nothing.
use Prim.Native.Nat.{ℕ, ◌+◌, ◌^◌, ◌<◌}
use native.Mathlib.Omega.{arith}
use mathlib.Core.List.{List, [], ◌∷◌, ◌++◌}
use lib.ListN.{length, drop, length-append, length-drop}
use Rattle.boxes.specs.Box.{Box, size, header}
use Rattle.boxes.specs.Boxes.{total, FRONT}
use Rattle.boxes.proofs.Whole.{length_header}
use Rattle.boxes.proofs.Placing.{total_is}
use Rattle.movie.specs.Stsds.{Stsd}
use Rattle.movie.specs.Entries.{Entry, entries_from, entries_of, entries_in}
use Rattle.movie.proofs.Stsds.{Each}
use Rattle.movie.proofs.Stsds.Each.{none, more}
use Rattle.sheet_table.proofs.RoundTrip.{Small, AllSmall}
use Rattle.sheet_table.proofs.RoundTrip.AllSmall.{none as no_entry, more as one_more}
use Rattle.promise_trips.proofs.Track.{Described}

small_append : {d e : List Entry} → AllSmall d → AllSmall e → AllSmall (d ++ e)
small_append no_entry b = b
small_append (one_more s a) b = one_more s (small_append a b)

-- ---- one `stsd`

small_from : (t : ℕ) (l : List Box) (p : ℕ) → p + total l < 2 ^ 32 → AllSmall (entries_from t l p)
unfolding entries_from total
small_from t [] p h = no_entry
small_from t (x ∷ l) p h =
    let s : Small (record { track = t; place = p; bytes = header x ++ x.body }) = record { place = omega arith; span = rw (length-append, length_header) (omega arith) } in
    one_more s (small_from t l (p + size x) (omega arith))

small_of : {xs : List ℕ} (s : Stsd) → Described xs s → length xs < 2 ^ 32 → AllSmall (entries_of s)
unfolding entries_of
small_of s d h =
    let b = s.body in
    small_from s.track _ _ (omega (arith, d.lies.inside, total_is (drop FRONT b), length-drop FRONT b, d.listed.room))

-- ---- all of them

pub all_small : {xs : List ℕ} {t : ℕ} {l : List Stsd} → Each (Described xs) t l → length xs < 2 ^ 32 → AllSmall (entries_in l)
unfolding entries_in
all_small none h = no_entry
all_small (more {s = s} e d a) h = small_append (small_of s d h) (all_small a h)
