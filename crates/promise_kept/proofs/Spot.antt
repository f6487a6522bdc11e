-- The entry of a number is a box of its track's `stsd`. Assumes nothing.
use Prim.Native.Nat.{ℕ, ◌+◌, ◌-◌, ◌≤◌, ◌<◌}
use native.Mathlib.Omega.{arith}
use mathlib.Core.Path.{◌≡◌, refl, ◌∙◌}
use mathlib.Core.List.{List, ◌∷◌}
use lib.ListN.{length, drop}
use Rattle.wire.proofs.Tests.{lt_yea, lt_nay, lt_or}
use Rattle.boxes.specs.Boxes.{FRONT, boxes}
use Rattle.movie.specs.Movie.{track}
use Rattle.movie.specs.Stsds.{Stsd, stsds}
use Rattle.movie.specs.Entries.{entries_of, entries_in, entries}
use Rattle.movie.specs.Named.{list_in, spot_in, bytes_at, In}
use Rattle.movie.proofs.Counting.{length_stsd}
use Rattle.movie.proofs.Stsds.{Each, each_stsd}
use Rattle.movie.proofs.Stsds.Each.{none, more}
use Rattle.movie.proofs.SameSpot.{same_track, same_nth}
use Rattle.promise_kept.proofs.Split.{Split, split_from, bytes_past}

module _ (xs : List ℕ) where
  -- an `stsd` lists what that of its track does
  abbrev Lists : Stsd → Type 0
  Lists s = drop FRONT s.body ≡ list_in (track xs (s.track - 1))

  all_list : Each Lists 0 (stsds xs)
  unfolding list_in
  all_list = each_stsd Lists xs (λ n k. let z : n + 1 - 1 ≡ n = omega arith in rw z)

  module _ (s : Stsd) (h : Lists s) (l : List Stsd) (i t n : ℕ) where
    -- the entry is in it
    split_here : i < length (entries_of s) → In (s.track - 1) i ≡ In t n → Split (boxes (list_in (track xs t))) n (bytes_at i (entries_in (s ∷ l)))
    unfolding entries_of entries_in
    split_here k e =
        let a = same_track e in
        let b = same_nth e in
        let f = split_from s.track (boxes (drop FRONT s.body)) (s.start + FRONT) i (entries_in l) (omega (arith, length_stsd s)) in
        rw (← a, ← b, ← h) f

    -- past it
    split_next : length (entries_of s) ≤ i → Split (boxes (list_in (track xs t))) n (bytes_at (i - length (entries_of s)) (entries_in l)) → Split (boxes (list_in (track xs t))) n (bytes_at i (entries_in (s ∷ l)))
    unfolding entries_in
    split_next k f = rw (bytes_past i (entries_of s) (entries_in l) k) f

  split_each : {u : ℕ} {l : List Stsd} → Each Lists u l → (i t n : ℕ) → spot_in l i ≡ In t n → Split (boxes (list_in (track xs t))) n (bytes_at i (entries_in l))
  unfolding spot_in
  split_each none i t n e = let z : ◌≡◌ {A = ℕ} 0 1 = cc in absurd (omega arith)
  split_each (more {s = s} {l = l} q h a) i t n e =
      lt_or i (length (entries_of s))
      (λ k. split_here s h l i t n k (lt_yea _ _ _ _ _ k refl ∙ e))
      (λ k. split_next s h l i t n k (split_each a (i - length (entries_of s)) t n (lt_nay _ _ _ _ _ k refl ∙ e)))

-- entry i of a file, in track t, is box n of that track's `stsd`
pub entry_split : (xs : List ℕ) (i t n : ℕ) → spot_in (stsds xs) i ≡ In t n → Split (boxes (list_in (track xs t))) n (bytes_at i (entries xs))
unfolding entries
entry_split xs i t n e = split_each xs (all_list xs) i t n e
