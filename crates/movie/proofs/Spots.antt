-- The spot of an entry as a function, by the walk over the boxes of `moov`; and its bytes. Assumes nothing.
use Rattle.std.specs.Prelude.{Option, None}
use Prim.Native.Nat.{ℕ, zero, suc, ◌+◌, ◌-◌, ◌≤◌, ◌<◌}
use native.Mathlib.Omega.{arith}
use mathlib.Core.Path.{◌≡◌, refl, sym, ap, ◌∙◌}
use mathlib.Core.List.{List, [], ◌∷◌}
use lib.ListN.{length, drop}
use Rattle.codes.specs.Codes.{TRAK}
use Rattle.wire.specs.Numbers.{Bytes}
use Rattle.wire.proofs.Tests.{lt_yea, lt_nay}
use Rattle.boxes.specs.declared.walk.Walk.{Walk}
use Rattle.boxes.specs.declared.walk.BoxAt.{BoxAt}
use Rattle.boxes.specs.Box.{Box, head, size}
use Rattle.boxes.specs.Boxes.{boxes}
use Rattle.boxes.specs.Walk.{payload, box_at, Ran, Over}
use Rattle.boxes.specs.Seek.{meant}
use Rattle.boxes.proofs.Seeking.{ran_next}
use Rattle.boxes.proofs.Meaning.{meant_or}
use Rattle.movie.specs.declared.entry.Spot.{Spot}
use Rattle.movie.specs.Stsds.{stsd_of, stsds_from}
use Rattle.movie.specs.Entries.{Entry, entries_of}
use Rattle.movie.specs.Named.{held, SpotAs, spot_in, bytes_at, In}
use Rattle.movie.proofs.Boxed.{held_hit, stsds_hit, held_miss, stsds_miss}
use Rattle.movie.proofs.Counting.{length_of}
use Rattle.movie.proofs.Spotting.{Gone, gone_none, gone_more, gone_in, gone_past}

-- ---- one box of `moov`

module _ (t : ℕ) (x : Box) (l : List Box) (p n : ℕ) where
  -- the entry is past it
  spot_past : held x.code x.body ≤ n → spot_in (stsds_from t (x ∷ l) p) n ≡ spot_in (stsds_from (t + meant TRAK x.code) l (p + size x)) (n - held x.code x.body)
  unfolding spot_in
  spot_past h =
      meant_or TRAK x.code
      (λ e.
      let o : length (entries_of (stsd_of (t + 1) x.body (p + head x))) ≡ held x.code x.body = length_of (t + 1) x.body (p + head x) ∙ sym (held_hit x e) in
      rw (stsds_hit x e l t p, e, o) (sym (lt_nay _ _ _ _ _ h refl)))
      (λ e.
      let z : t + 0 ≡ t = omega arith in
      let m : n - held x.code x.body ≡ n = omega (arith, held_miss x e) in
      rw (stsds_miss x e l t p, e, z, m))

  -- it is in it
  spot_in_lem : n < held x.code x.body → spot_in (stsds_from t (x ∷ l) p) n ≡ In t n
  unfolding spot_in
  spot_in_lem h =
      meant_or TRAK x.code
      (λ e.
      let o : length (entries_of (stsd_of (t + 1) x.body (p + head x))) ≡ held x.code x.body = length_of (t + 1) x.body (p + head x) ∙ sym (held_hit x e) in
      let z : t + 1 - 1 ≡ t = omega arith in
      rw (stsds_hit x e l t p, o, z) (sym (lt_yea _ _ _ _ _ h refl)))
      (λ e. absurd (omega (arith, held_miss x e)))

-- ---- the walk

-- as `Gone`, and the spot is the one of entry `left` from there on
pub record Spotted (ys : List ℕ) (i t left at : ℕ) : Type 0 where
  pub gone : Gone ys i t left at
  pub spot : (p : ℕ) → spot_in (stsds_from 0 (boxes ys) p) i ≡ spot_in (stsds_from t (boxes (drop at ys)) (p + at)) left

pub spotted_none : (ys : List ℕ) (i : ℕ) → Spotted ys i 0 i 0
spotted_none ys i = record { gone = gone_none ys i; spot = λ p. let z : p + 0 ≡ p = omega arith in rw z }

-- a spot that is told is the one of entry i, wherever those boxes start
abbrev SpotIs : List ℕ → ℕ → Option Spot → Type 0
SpotIs ys i r = SpotAs ys i r × ((p : ℕ) → r ≡ spot_in (stsds_from 0 (boxes ys) p) i)

module _ {ys : List ℕ} {i t left at : ℕ} (g : Spotted ys i t left at) where
  module _ {b : BoxAt} {w : Walk} (v : Bytes ys) (s : Ran ys at b w) {d : List ℕ} (f : d ≡ payload ys b) {n : ℕ} (e : n ≡ held b.code d) where
    pub spotted_more : n ≤ left → {m : ℕ} → m ≡ meant TRAK b.code → Spotted ys i (t + m) (left - n) w.at
    spotted_more h o =
        let k : n ≡ held b.code (payload ys b) = rw f at e in
        record { gone = gone_more g.gone v s f e h o; spot = λ p. g.spot p ∙ rw (s.list, o, k, ← ran_next s p) (spot_past t (box_at ys b) (boxes (drop w.at ys)) (p + at) left (omega arith)) }

    pub spotted_in : left < n → SpotIs ys i (In t left)
    spotted_in h =
        let k : n ≡ held b.code (payload ys b) = rw f at e in
        (gone_in g.gone v s f e h, λ p. sym (g.spot p ∙ rw s.list (spot_in_lem t (box_at ys b) (boxes (drop w.at ys)) (p + at) left (omega arith))))

  pub spotted_past : Over ys at → SpotIs ys i None
  unfolding spot_in stsds_from
  spotted_past o = (gone_past g.gone o, λ p. sym (g.spot p ∙ rw o.list))

-- ---- its bytes

-- by the list from its number on
at_front : (i : ℕ) (es : List Entry) → bytes_at i es ≡ bytes_at 0 (drop i es)
unfolding bytes_at
at_front zero es = refl
at_front (suc i) [] = refl
at_front (suc i) (x ∷ es) = at_front i es

pub bytes_at_lem : (i : ℕ) (es : List Entry) {e : Entry} {l : List Entry} → drop i es ≡ e ∷ l → bytes_at i es ≡ e.bytes
unfolding bytes_at
bytes_at_lem i es q = at_front i es ∙ ap (bytes_at 0) q

pub bytes_none : (i : ℕ) (es : List Entry) → length es ≤ i → bytes_at i es ≡ []
unfolding bytes_at
bytes_none i [] h = refl
bytes_none zero (x ∷ es) h = absurd (omega arith)
bytes_none (suc i) (x ∷ es) h = bytes_none i es (omega arith)
