-- The entries of a list of boxes, and of a box of `moov`. Assumes nothing.
use Prim.Native.Nat.{ℕ, suc, ◌+◌}
use native.Mathlib.Omega.{arith}
use native.Mathlib.Nat.{add_assoc}
use mathlib.Core.Path.{◌≡◌, refl, sym, ap, ◌∙◌}
use mathlib.Core.List.{List, [], ◌∷◌, ◌++◌}
use lib.ListN.{length, drop}
use Rattle.wire.specs.Numbers.{Bytes}
use Rattle.codes.specs.Codes.{TRAK}
use Rattle.wire.proofs.Tests.{eq_yea, eq_nay}
use Rattle.boxes.specs.declared.walk.BoxAt.{BoxAt}
use Rattle.boxes.specs.Box.{Box, head, size, header}
use Rattle.boxes.specs.Boxes.{boxes, total}
use Rattle.boxes.specs.Walk.{payload, box_at}
use Rattle.boxes.specs.Seek.{ANY, meant, count, Cut}
use Rattle.boxes.proofs.Placing.{total_before}
use Rattle.boxes.proofs.Meaning.{meant_yes, meant_is}
use Rattle.boxes.proofs.Numbered.{count_any}
use Rattle.movie.specs.Stsds.{stsd_of, stsds_from}
use Rattle.movie.specs.Entries.{entries_from, entries_of, entries_in}
use Rattle.movie.specs.Named.{list_in, held}

pub length_from : (t : ℕ) (l : List Box) (p : ℕ) → length (entries_from t l p) ≡ length l
unfolding entries_from
length_from t [] p = refl
length_from t (x ∷ l) p = ap suc (length_from t l (p + size x))

from_past : (t : ℕ) (l m : List Box) (p : ℕ) → drop (length l) (entries_from t (l ++ m) p) ≡ entries_from t m (p + total l)
unfolding entries_from total
from_past t [] m p = ap (entries_from t m) (omega arith)
from_past t (x ∷ l) m p = from_past t l m (p + size x) ∙ ap (entries_from t m) (add_assoc p (size x) (total l))

-- the n-th, as a search cuts it
pub from_cut : (t p : ℕ) {xs : List ℕ} {n : ℕ} {b : BoxAt} → Bytes xs → (s : Cut xs ANY n b)
    → drop n (entries_from t (boxes xs) p) ≡ record { track = t; place = p + b.at; bytes = header (box_at xs b) ++ payload xs b } ∷ entries_from t s.q (p + b.at + size (box_at xs b))
unfolding entries_from
from_cut t p {xs} {n} {b} v s =
    let e : n ≡ length s.p = sym s.nth ∙ count_any s.p in
    rw (s.list, e) (from_past t s.p (box_at xs b ∷ s.q) p ∙ rw (total_before v s))

-- ---- a box of `moov`

module _ (x : Box) (e : meant TRAK x.code ≡ 1) where
  pub track_code : x.code ≡ TRAK
  track_code = meant_is TRAK x.code (λ z. omega arith) e

  pub held_hit : held x.code x.body ≡ count ANY (boxes (list_in x.body))
  unfolding held
  held_hit = sym (eq_yea _ _ _ _ _ track_code refl)

  pub stsds_hit : (l : List Box) (t p : ℕ) → stsds_from t (x ∷ l) p ≡ stsd_of (t + 1) x.body (p + head x) ∷ stsds_from (t + 1) l (p + size x)
  unfolding stsds_from
  stsds_hit l t p = sym (eq_yea _ _ _ _ _ track_code refl)

  pub after_hit : (l : List Box) (t p : ℕ) → entries_in (stsds_from t (x ∷ l) p) ≡ entries_of (stsd_of (t + 1) x.body (p + head x)) ++ entries_in (stsds_from (t + 1) l (p + size x))
  unfolding entries_in
  after_hit l t p = ap entries_in (stsds_hit l t p)

module _ (x : Box) (e : meant TRAK x.code ≡ 0) where
  pub other_code : x.code ≡ TRAK → ⊥
  other_code h = omega (arith, meant_yes TRAK x.code (λ z. omega arith) h)

  pub held_miss : held x.code x.body ≡ 0
  unfolding held
  held_miss = sym (eq_nay _ _ _ _ _ other_code refl)

  pub stsds_miss : (l : List Box) (t p : ℕ) → stsds_from t (x ∷ l) p ≡ stsds_from t l (p + size x)
  unfolding stsds_from
  stsds_miss l t p = sym (eq_nay _ _ _ _ _ other_code refl)

  pub after_miss : (l : List Box) (t p : ℕ) → entries_in (stsds_from t (x ∷ l) p) ≡ entries_in (stsds_from t l (p + size x))
  after_miss l t p = ap entries_in (stsds_miss l t p)
