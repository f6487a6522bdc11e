-- The `stsd`s of a file and their entries, by the number of the track. Assumes nothing.
use Prim.Native.Nat.{ℕ, zero, suc, ◌+◌, ◌-◌, ◌≤◌, ◌<◌}
use native.Mathlib.Omega.{arith}
use mathlib.Core.Path.{◌≡◌, refl, ap, ◌∙◌}
use mathlib.Core.List.{List, [], ◌∷◌, ◌++◌}
use lib.ListN.{length, drop}
use Rattle.codes.specs.Codes.{TRAK}
use Rattle.boxes.specs.Box.{Box, size}
use Rattle.boxes.specs.Boxes.{boxes, total}
use Rattle.boxes.specs.Seek.{ANY, count, nth, start_in}
use Rattle.boxes.proofs.Meaning.{meant_most, meant_or}
use Rattle.boxes.proofs.Whole.{head_least}
use Rattle.movie.specs.Movie.{movie, tracks, track}
use Rattle.movie.specs.Stsds.{Stsd, stsd_of, stsds_from}
use Rattle.movie.specs.Entries.{Entry, entries_of, entries_in}
use Rattle.movie.specs.Named.{list_in}
use Rattle.movie.proofs.Boxed.{stsds_hit, stsds_miss}
use Rattle.movie.proofs.Counting.{length_of}
use Rattle.movie.proofs.Stsds.{Each, each_from}
use Rattle.movie.proofs.Stsds.Each.{none as no_more, more}

pub length_stsds : (l : List Box) (t p : ℕ) → length (stsds_from t l p) ≡ count TRAK l
unfolding stsds_from count
length_stsds [] t p = refl
length_stsds (x ∷ l) t p =
    meant_or TRAK x.code
    (λ e. ap length (stsds_hit x e l t p) ∙ omega (arith, length_stsds l (t + 1) (p + size x), e))
    (λ e. ap length (stsds_miss x e l t p) ∙ omega (arith, length_stsds l t (p + size x), e))

-- it is the one of its number, and those after it follow
record Nth (P : Stsd → Type 0) (t n : ℕ) (l : List Stsd) : Type 0 where
  stsd : Stsd
  list : drop n l ≡ stsd ∷ drop (n + 1) l
  number : stsd.track ≡ t + n + 1
  claim : P stsd

each_nth : (P : Stsd → Type 0) (n t : ℕ) {l : List Stsd} → Each P t l → n < length l → Nth P t n l
each_nth P n t no_more h = absurd (omega arith)
each_nth P zero t (more {s = s} e p a) h = record { stsd = s; list = refl; number = omega arith; claim = p }
each_nth P (suc n) t (more e p a) h =
    let r = each_nth P n (t + 1) a (omega arith) in
    let z : suc n + 1 ≡ suc (n + 1) = omega arith in
    record { stsd = r.stsd; list = rw z r.list; number = omega (arith, r.number); claim = r.claim }

module _ (l : List Box) (p : ℕ) where
  abbrev Numbered : Stsd → Type 0
  Numbered s = s ≡ stsd_of s.track (nth TRAK (s.track - 1) l) (p + start_in TRAK (s.track - 1) l)

  pub stsd_cons : (n : ℕ) → n < count TRAK l → drop n (stsds_from 0 l p) ≡ stsd_of (n + 1) (nth TRAK n l) (p + start_in TRAK n l) ∷ drop (n + 1) (stsds_from 0 l p)
  stsd_cons n h =
      let r = each_nth Numbered n 0 (each_from Numbered l 0 p (λ i k. let z : 0 + 1 + i - 1 ≡ i = omega arith in rw z)) (omega (arith, length_stsds l 0 p)) in
      let t : r.stsd.track ≡ n + 1 = omega (arith, r.number) in
      let m : n + 1 - 1 ≡ n = omega arith in
      let s : r.stsd ≡ stsd_of (n + 1) (nth TRAK n l) (p + start_in TRAK n l) = rw (t, m) at r.claim in
      r.list ∙ ap (λ (a : Stsd). a ∷ drop (n + 1) (stsds_from 0 l p)) s

-- each box takes a byte at least
pub count_total : (c : ℕ) (l : List Box) → count c l ≤ total l
unfolding count total
count_total c [] = omega arith
count_total c (x ∷ l) = omega (arith, count_total c l, meant_most c x.code, head_least x.form)

-- ---- those of track t, and those after them

module _ (xs : List ℕ) {t : ℕ} (h : t < tracks xs) (p : ℕ) where
  abbrev pub own : List Entry
  own = entries_of (stsd_of (t + 1) (nth TRAK t (movie xs)) (p + start_in TRAK t (movie xs)))

  pub from_here : entries_in (drop t (stsds_from 0 (movie xs) p)) ≡ own ++ entries_in (drop (t + 1) (stsds_from 0 (movie xs) p))
  unfolding entries_in
  from_here = ap entries_in (stsd_cons (movie xs) p t h)

  pub long : length own ≡ count ANY (boxes (list_in (track xs t)))
  unfolding track
  long = length_of (t + 1) (nth TRAK t (movie xs)) (p + start_in TRAK t (movie xs))
