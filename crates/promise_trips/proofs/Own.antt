-- Of the entries of a file, those of one track are the boxes that its `stsd` lists, and their table is that box under a plain header. Assumes nothing.
use Prim.Native.Nat.{ℕ, zero, suc, ◌+◌, ◌≤◌, ◌<◌}
use native.Mathlib.Omega.{arith}
use mathlib.Core.Path.{◌≡◌, refl, sym, ap}
use mathlib.Core.List.{List, [], ◌∷◌, ◌++◌, append-nil}
use lib.ListN.{length, take, drop}
use Rattle.codes.specs.Codes.{STSD}
use Rattle.wire.proofs.Tests.{eq_yea, eq_nay, through}
use Rattle.boxes.specs.declared.walk.Form.TheVariants.{Plain}
use Rattle.boxes.specs.Box.{Box, size, header}
use Rattle.boxes.specs.Boxes.{FRONT}
use Rattle.boxes.specs.Way.{box_by}
use Rattle.movie.specs.Stsds.{Stsd, standing}
use Rattle.movie.specs.Entries.{Entry, entries_from, entries_of, entries_in}
use Rattle.movie.proofs.Stsds.{Each}
use Rattle.movie.proofs.Stsds.Each.{none, more}
use Rattle.sheet_table.specs.Table.{own_entries, table}
use Rattle.promise_trips.proofs.Track.{Described}
use Rattle.promise_trips.proofs.Tracks.{some_of}
use Rattle.promise_trips.proofs.Written.{table_written}

own_append : (u : ℕ) (d e : List Entry) → own_entries u (d ++ e) ≡ own_entries u d ++ own_entries u e
unfolding own_entries
own_append u [] e = refl
own_append u (x ∷ d) e = rw (own_append u d e) (sym (through (λ k. k ++ own_entries u e) x.track u (x ∷ own_entries u d) (own_entries u d)))

-- ---- one `stsd`

own_from : (u : ℕ) (l : List Box) (p : ℕ) → own_entries u (entries_from u l p) ≡ entries_from u l p
unfolding own_entries entries_from
own_from u [] p = refl
own_from u (x ∷ l) p =
    let e : Entry = record { track = u; place = p; bytes = header x ++ x.body } in
    let d = entries_from u l (p + size x) in
    sym (eq_yea u u (e ∷ own_entries u d) (own_entries u d) (e ∷ d) refl (ap (λ (k : List Entry). e ∷ k) (sym (own_from u l (p + size x)))))

not_from : (t u : ℕ) (l : List Box) (p : ℕ) → (t ≡ u → ⊥) → own_entries u (entries_from t l p) ≡ []
unfolding own_entries entries_from
not_from t u [] p h = refl
not_from t u (x ∷ l) p h = sym (eq_nay _ _ _ _ _ h (sym (not_from t u l (p + size x) h)))

own_of : (s : Stsd) (u : ℕ) → s.track ≡ u → own_entries u (entries_of s) ≡ entries_of s
unfolding entries_of
own_of s u e = rw (← e) (own_from s.track _ _)

not_of : (s : Stsd) (u : ℕ) → (s.track ≡ u → ⊥) → own_entries u (entries_of s) ≡ []
unfolding entries_of
not_of s u h = not_from s.track u _ _ h

-- it is written back as its payload stands, under a plain header
of_stands : {xs : List ℕ} (s : Stsd) → Described xs s → table (entries_of s) ≡ box_by Plain STSD (take (length s.body) (drop s.start xs))
unfolding entries_of
of_stands s d = rw d.lies.is (table_written s.body d.filled d.listed s.track (s.start + FRONT))

-- ---- all of them

module _ {xs : List ℕ} where
  -- a track that was passed has no entries further on, nor has a track that there is not
  pub not_after : (u : ℕ) {t : ℕ} {l : List Stsd} → Each (Described xs) t l → u ≤ t → own_entries u (entries_in l) ≡ []
  unfolding own_entries entries_in
  not_after u none h = refl
  not_after u (more {t} {s} {l} e d a) h = rw (own_append u (entries_of s) (entries_in l), not_of s u (λ z. omega arith)) (not_after u a (omega arith))

  pub not_there : (u : ℕ) {t : ℕ} {l : List Stsd} → Each (Described xs) t l → t + length l < u → own_entries u (entries_in l) ≡ []
  unfolding own_entries entries_in
  not_there u none h = refl
  not_there u (more {t} {s} {l} e d a) h = rw (own_append u (entries_of s) (entries_in l), not_of s u (λ z. omega arith)) (not_there u a (omega arith))

  -- after t tracks, those of track n from there on: there are some, and their table is what stands as the payload of its `stsd`, under a plain header
  pub own_at : (n u : ℕ) {t : ℕ} {l : List Stsd} → Each (Described xs) t l → n < length l → u ≡ t + 1 + n → (1 ≤ length (own_entries u (entries_in l))) × (table (own_entries u (entries_in l)) ≡ standing xs l n)
  unfolding entries_in standing
  own_at n u none h q = absurd (omega arith)
  own_at zero u (more {t} {s} {l} e d a) h q =
      rw (own_append u (entries_of s) (entries_in l), own_of s u (omega arith), not_after u a (omega arith), append-nil (entries_of s)) (some_of s d, of_stands s d)
  own_at (suc n) u (more {t} {s} {l} e d a) h q = rw (own_append u (entries_of s) (entries_in l), not_of s u (λ z. omega arith)) (own_at n u a (omega arith) (omega arith))
