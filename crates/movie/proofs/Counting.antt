-- How many entries there are, by the walk over the boxes of `moov`. Assumes nothing.
use Prim.Native.Nat.{ℕ, ◌+◌, ◌≤◌}
use native.Mathlib.Omega.{arith}
use mathlib.Core.Path.{◌≡◌, refl, sym, ap, ◌∙◌}
use mathlib.Core.List.{List, [], ◌∷◌}
use lib.ListN.{length, drop, length-append}
use Rattle.codes.specs.Codes.{MOOV, TRAK}
use Rattle.boxes.specs.declared.walk.Walk.{Walk}
use Rattle.boxes.specs.declared.walk.BoxAt.{BoxAt}
use Rattle.boxes.specs.Box.{Box, head, size}
use Rattle.boxes.specs.Boxes.{FRONT, boxes}
use Rattle.boxes.specs.Walk.{payload, Ran, Over}
use Rattle.boxes.specs.Seek.{ANY, count, find, start_in}
use Rattle.boxes.proofs.Seeking.{length_payload}
use Rattle.boxes.proofs.Meaning.{meant_or}
use Rattle.boxes.proofs.Numbered.{found_short, count_any}
use Rattle.movie.specs.Stsds.{Stsd, stsd_of, stsds_from, stsds}
use Rattle.movie.specs.Entries.{entries_of, entries_in, entries}
use Rattle.movie.specs.Named.{list_in, held}
use Rattle.movie.proofs.Boxed.{length_from, held_hit, after_hit, held_miss, after_miss}

-- ---- how many

pub length_stsd : (s : Stsd) → length (entries_of s) ≡ count ANY (boxes (drop FRONT s.body))
unfolding entries_of
length_stsd s = length_from s.track _ _ ∙ sym (count_any _)

pub length_of : (t : ℕ) (b : List ℕ) (p : ℕ) → length (entries_of (stsd_of t b p)) ≡ count ANY (boxes (list_in b))
unfolding list_in
length_of t b p = length_stsd (stsd_of t b p)

-- the entries of boxes of `moov`
unfoldable pub held_in : List Box → ℕ
held_in [] = 0
held_in (x ∷ l) = held x.code x.body + held_in l

pub length_after : (t : ℕ) (l : List Box) (p : ℕ) → length (entries_in (stsds_from t l p)) ≡ held_in l
unfolding stsds_from entries_in held_in
length_after t [] p = refl
length_after t (x ∷ l) p =
    meant_or TRAK x.code
    (λ e. rw (after_hit x e l t p, length-append, held_hit x e) (omega (arith, length_after (t + 1) l (p + size x), length_of (t + 1) x.body (p + head x))))
    (λ e. rw (after_miss x e l t p, held_miss x e) (omega (arith, length_after t l (p + size x))))

-- ---- the walk

-- before place at there are n entries
pub record Tally (ys : List ℕ) (n at : ℕ) : Type 0 where
  pub is : held_in (boxes ys) ≡ n + held_in (boxes (drop at ys))
  pub few : n ≤ at
  pub inside : at ≤ length ys

pub tally_none : (ys : List ℕ) → Tally ys 0 0
tally_none ys = record { is = omega arith; few = omega arith; inside = omega arith }

module _ {ys : List ℕ} {n at : ℕ} (g : Tally ys n at) where
  pub tally_more : {b : BoxAt} {w : Walk} → Ran ys at b w → {d : List ℕ} → d ≡ payload ys b → {m : ℕ} → m ≡ held b.code d → m ≤ length d → Tally ys (n + m) w.at
  unfolding held_in
  tally_more s f e h =
      let k = length_payload s in
      record { is = g.is ∙ rw (s.list, ← f, ← e) (omega arith); few = omega (arith, g.few, s.next, s.least, ap length f); inside = omega (arith, s.next, s.inside) }

  pub tally_all : Over ys at → (xs : List ℕ) → ys ≡ find MOOV (boxes xs) → (n ≡ length (entries xs)) × (n ≤ length xs)
  unfolding held_in stsds entries
  tally_all o xs e =
      let h : held_in (boxes ys) ≡ n = g.is ∙ rw o.list (omega arith) in
      let k : held_in (boxes (find MOOV (boxes xs))) ≡ n = rw e at h in
      (sym (length_after 0 (boxes (find MOOV (boxes xs))) (start_in MOOV 0 (boxes xs)) ∙ k), omega (arith, found_short MOOV 0 xs e, g.few, g.inside))
