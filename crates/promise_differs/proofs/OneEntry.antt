-- What replaces the record of entry i changes entry i of the sheet's list, and no other. Assumes nothing.
use Prim.Native.Nat.{ℕ, ◌+◌, ◌-◌, ◌≤◌, ◌<◌}
use native.Mathlib.Omega.{arith}
use mathlib.Core.Path.{◌≡◌, refl, sym, ◌∙◌}
use mathlib.Core.List.{List, ◌∷◌, map-append}
use lib.ListN.{length}
use Rattle.codes.specs.Codes.{STSD}
use Rattle.wire.specs.Numbers.{Bytes}
use Rattle.wire.proofs.Tests.{lt_yea, lt_nay, lt_or}
use Rattle.movie.specs.Movie.{track, sample_table}
use Rattle.movie.specs.Stsds.{Stsd, stsds}
use Rattle.movie.specs.Entries.{entries_of, entries_in, entries}
use Rattle.movie.specs.Named.{spot_in, In}
use Rattle.movie.proofs.Stsds.{Each, each_stsd, Pairs}
use Rattle.movie.proofs.Stsds.Each.{none, more}
use Rattle.movie.proofs.Stsds.Pairs.{nil, cons}
use Rattle.movie.proofs.SameSpot.{same_track, same_nth}
use Rattle.judge.specs.Acceptance.{Meets}
use Rattle.edit_replace.specs.Replace.{kind_at}
use Rattle.promise_kept.proofs.Named.{entry_in_lem}
use Rattle.promise_differs.specs.Differs.{Replaces}
use Rattle.promise_differs.specs.OneEntry.{entry_with, OneEntry}
use Rattle.promise_differs.proofs.Tracking.{stsds_kin, track_stsd}
use Rattle.promise_differs.proofs.OneOfEntries.{unplaced, bare, OneOf, one_behind, one_before, one_entry_lem}
use Rattle.promise_differs.proofs.OneStsd.{stsd_short, stsd_same, stsd_one}

-- ---- the `stsd`s of a file

-- each is the one of its track
abbrev Own : List ℕ → Stsd → Type 0
Own xs s = (u : ℕ) → s.track ≡ u + 1 → s.body ≡ sample_table STSD (track xs u)

own_each : (xs : List ℕ) → Each (Own xs) 0 (stsds xs)
unfolding sample_table
own_each xs = each_stsd (Own xs) xs (λ n k u e. let z : n ≡ u = omega arith in rw z)

-- of those past u tracks, no entry is in a track before
spot_past : {P : Stsd → Type 0} {u : ℕ} {l : List Stsd} → Each P u l → (j t n : ℕ) → spot_in l j ≡ In t n → u ≤ t
unfolding spot_in
spot_past none j t n e = let z : ◌≡◌ {A = ℕ} 0 1 = cc in absurd (omega arith)
spot_past (more {s = s} q h a) j t n e =
    lt_or j (length (entries_of s))
    (λ k. omega (arith, same_track (lt_yea _ _ _ _ _ k refl ∙ e)))
    (λ k. omega (arith, spot_past a (j - length (entries_of s)) t n (lt_nay _ _ _ _ _ k refl ∙ e)))

module _ (xs : List ℕ) (i : ℕ) (new ys : List ℕ) (w : Bytes xs) (met : Meets xs) (first : 1 ≤ i) (small : length ys < 4294967296) (h : Replaces xs i new ys) where
  -- entry j of those `stsd`s has another record
  abbrev OneIn : ℕ → List Stsd → List Stsd → Type 0
  OneIn j l m = OneOf (entry_with (kind_at xs i) new) j (entries_in l) (entries_in m)

  -- ---- track u of both

  module _ (u : ℕ) (s r : Stsd) (e : s.track ≡ u + 1) (f : r.track ≡ u + 1) (p : Own xs s) (q : Own ys r) where
    other_track : (u ≡ h.t → ⊥) → bare (entries_of r) ≡ bare (entries_of s)
    other_track z = stsd_same s r (omega arith) (q u f ∙ sym (track_stsd _ _ (h.elsewhere u z)) ∙ sym (p u e))

    its_track : u ≡ h.t → OneOf (entry_with (kind_at xs i) new) h.n (entries_of s) (entries_of r)
    its_track z =
        let k = entry_in_lem xs i w met first h.t h.n h.spot in
        let b = q h.t (omega arith) in
        stsd_one xs i new h.t h.n k s r (omega arith) (p h.t (omega arith)) (b ∙ h.there) (rw b (omega (arith, stsd_short ys h.t)))

    module _ (l m : List Stsd) (j : ℕ) where
      -- the entry is in it
      one_here : In (s.track - 1) j ≡ In h.t h.n → (h.t < u + 1 → bare (entries_in m) ≡ bare (entries_in l)) → OneIn j (s ∷ l) (r ∷ m)
      unfolding entries_in
      one_here k a =
          let y = same_track k in
          let z = same_nth k in
          rw z (one_before (entries_in l) (entries_in m) (a (omega arith)) (its_track (omega arith)))

      -- past it
      one_next : length (entries_of s) ≤ j → u + 1 ≤ h.t → OneIn (j - length (entries_of s)) l m → OneIn j (s ∷ l) (r ∷ m)
      unfolding entries_in
      one_next k a o =
          let z : length (entries_of s) + (j - length (entries_of s)) ≡ j = omega arith in
          rw z at (one_behind (entries_of s) (entries_of r) (other_track (λ z. omega arith)) o)

  -- ---- all of them

  rest_same : {Q : List ℕ → List ℕ → Type 0} {u : ℕ} {l m : List Stsd} → Pairs Q l m → Each (Own xs) u l → Each (Own ys) u m
      → h.t < u → bare (entries_in m) ≡ bare (entries_in l)
  unfolding entries_in
  rest_same {u = u} nil none none k = refl
  rest_same {u = u} (cons _ _ _ _ _ a) (more {s = s} {l = l} e p b) (more {s = r} {l = m} f q c) k =
      rw (map-append unplaced (entries_of r) (entries_in m), map-append unplaced (entries_of s) (entries_in l))
      (rw (other_track u s r e f p q (λ z. omega arith), rest_same {u = u + 1} a b c (omega arith)))

  one_in : {Q : List ℕ → List ℕ → Type 0} {u : ℕ} {l m : List Stsd} → Pairs Q l m → Each (Own xs) u l → Each (Own ys) u m
      → (j : ℕ) → spot_in l j ≡ In h.t h.n → OneIn j l m
  unfolding spot_in
  one_in {u = u} nil none none j k = let z : ◌≡◌ {A = ℕ} 0 1 = cc in absurd (omega arith)
  one_in {u = u} (cons _ _ _ _ _ a) (more {s = s} {l = l} e p b) (more {s = r} {l = m} f q c) j k =
      lt_or j (length (entries_of s))
      (λ d. one_here u s r e f p q l m j (lt_yea _ _ _ _ _ d refl ∙ k) (rest_same {u = u + 1} a b c))
      (λ d. let y = lt_nay _ _ _ _ _ d refl ∙ k in one_next u s r e f p q l m j d (spot_past b _ h.t h.n y) (one_in {u = u + 1} a b c _ y))

  pub replaces_one : OneEntry xs i new ys
  unfolding entries
  replaces_one = one_entry_lem xs i new ys first (one_in (stsds_kin _ xs ys h.differs) (own_each xs) (own_each ys) (i - 1) h.spot)
