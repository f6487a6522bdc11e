-- The entries of a file by their tracks: numbers that start at 1 and never fall or skip. Assumes nothing.
use Prim.Native.Nat.{ℕ, ◌+◌, ◌≤◌}
use native.Mathlib.Omega.{arith}
use mathlib.Core.Path.{◌≡◌, refl, sym}
use mathlib.Core.Bool.{true}
use mathlib.Core.List.{List, [], ◌∷◌, ◌++◌}
use lib.ListN.{length, drop, length-append}
use Rattle.codes.specs.Codes.{MOOV, TRAK}
use Rattle.wire.proofs.Clauses.{is_le_lem, holds, done}
use Rattle.boxes.specs.Box.{Box, size}
use Rattle.boxes.specs.Boxes.{FRONT, boxes}
use Rattle.boxes.specs.Seek.{count, start_in}
use Rattle.boxes.proofs.Meaning.{meant_or, count_hit, count_miss}
use Rattle.movie.specs.Movie.{movie, tracks}
use Rattle.movie.specs.Stsds.{Stsd, stsds_from, stsds}
use Rattle.movie.specs.Entries.{Entry, entries_from, entries_of, entries_in}
use Rattle.movie.proofs.Boxed.{stsds_hit, stsds_miss}
use Rattle.movie.proofs.Counting.{length_stsd}
use Rattle.movie.proofs.Stsds.{Each}
use Rattle.movie.proofs.Stsds.Each.{none, more}
use Rattle.sheet_table.specs.Form.{follows, steps, all_meet}
use Rattle.promise_trips.proofs.Alone.{meet_append}
use Rattle.promise_trips.proofs.Track.{Described}

-- there are as many as tracks
length_from : (l : List Box) (t p : ℕ) → length (stsds_from t l p) ≡ count TRAK l
unfolding stsds_from count
length_from [] t p = refl
length_from (x ∷ l) t p =
    meant_or TRAK x.code
    (λ e. rw (stsds_hit x e l t p) (omega (arith, count_hit TRAK x l e, length_from l (t + 1) (p + size x))))
    (λ e. rw (stsds_miss x e l t p) (omega (arith, count_miss TRAK x l e, length_from l t (p + size x))))

pub length_stsds : (xs : List ℕ) → length (stsds xs) ≡ tracks xs
unfolding stsds
length_stsds xs = length_from (movie xs) 0 (start_in MOOV 0 (boxes xs))

-- ---- one track

-- it has an entry
pub some_of : {xs : List ℕ} (s : Stsd) → Described xs s → 1 ≤ length (entries_of s)
some_of s d = omega (arith, length_stsd s, d.listed.some, d.listed.counted)

-- track u is the one of the entry before, or the next
goes : (t u : ℕ) → t ≤ u → u ≤ t + 1 → 1 ≤ u → u ≤ 4 → follows t u ≡ true
unfolding follows
goes t u h k l m = sym (holds _ _ (is_le_lem _ _ h) (holds _ _ (is_le_lem _ _ k) (holds _ _ (is_le_lem _ _ l) (holds _ _ (is_le_lem _ _ m) done))))

steps_from : (t : ℕ) (l : List Box) (p : ℕ) (e : List Entry) → 1 ≤ t → t ≤ 4 → steps t e ≡ true → steps t (entries_from t l p ++ e) ≡ true
unfolding entries_from steps
steps_from t [] p e h k q = q
steps_from t (x ∷ l) p e h k q = rw (goes t t (omega arith) (omega arith) h k) (steps_from t l (p + size x) e h k q)

steps_next : (t : ℕ) (l : List Box) (p : ℕ) (e : List Entry) → t + 1 ≤ 4 → 1 ≤ length (entries_from (t + 1) l p) → steps (t + 1) e ≡ true → steps t (entries_from (t + 1) l p ++ e) ≡ true
unfolding entries_from steps
steps_next t [] p e k n q = absurd (omega arith)
steps_next t (x ∷ l) p e k n q = rw (goes t (t + 1) (omega arith) (omega arith) (omega arith) k) (steps_from (t + 1) l (p + size x) e (omega arith) k q)

steps_of : (t : ℕ) (s : Stsd) → s.track ≡ t + 1 → (e : List Entry) → t + 1 ≤ 4 → 1 ≤ length (entries_of s) → steps (t + 1) e ≡ true → steps t (entries_of s ++ e) ≡ true
unfolding entries_of
steps_of t s z e k n q = rw z (steps_next t (boxes (drop FRONT s.body)) (s.start + FRONT) e k (rw z at n) q)

-- ---- all of them

module _ {xs : List ℕ} where
  pub all_steps : {t : ℕ} {l : List Stsd} → Each (Described xs) t l → t + length l ≤ 4 → steps t (entries_in l) ≡ true
  unfolding entries_in steps
  all_steps none h = refl
  all_steps (more {t} {s} {l} e d a) h = steps_of t s e (entries_in l) (omega arith) (some_of s d) (all_steps a (omega arith))

  pub all_meet_lem : {t : ℕ} {l : List Stsd} → Each (Described xs) t l → all_meet (entries_in l) ≡ true
  unfolding entries_in all_meet
  all_meet_lem none = refl
  all_meet_lem (more {s = s} {l = l} e d a) = meet_append (entries_of s) (entries_in l) d.meet (all_meet_lem a)

  pub all_some : {t : ℕ} {l : List Stsd} → Each (Described xs) t l → 1 ≤ length l → 1 ≤ length (entries_in l)
  unfolding entries_in
  all_some none h = absurd (omega arith)
  all_some (more {s = s} {l = l} e d a) h = rw length-append (omega (arith, some_of s d))
