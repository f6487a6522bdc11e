-- The running total of sample entries, by the walk over the boxes of `moov`. Assumes nothing.
use Prim.Native.Nat.{ℕ, ◌+◌, ◌≤◌, ◌<◌}
use native.Mathlib.Omega.{arith}
use mathlib.Core.Path.{◌≡◌, refl, sym, ap, ◌∙◌}
use mathlib.Core.List.{List, ◌∷◌}
use lib.ListN.{length, drop}
use Rattle.wire.specs.Tests.{if_eq}
use Rattle.codes.specs.Codes.{TRAK}
use Rattle.wire.proofs.Tests.{eq_yea, eq_nay, le_yea, le_nay}
use Rattle.boxes.specs.declared.walk.Walk.{Walk}
use Rattle.boxes.specs.declared.walk.BoxAt.{BoxAt}
use Rattle.boxes.specs.Box.{Box, head_of, head, size}
use Rattle.boxes.specs.Boxes.{boxes}
use Rattle.boxes.specs.Walk.{payload, box_at, Ran, Over}
use Rattle.boxes.specs.Seek.{meant}
use Rattle.boxes.proofs.Meaning.{meant_or}
use Rattle.boxes.proofs.Seeking.{ran_next}
use Rattle.movie.specs.Ways.{to_stsd, follow, place_along}
use Rattle.movie.specs.Movie.{stored_count}
use Rattle.movie.specs.Stsds.{stsds_from}
use Rattle.movie.proofs.Boxed.{track_code, stsds_hit, other_code, stsds_miss}
use Rattle.rule_lists.specs.Five.{passing}
use Rattle.rule.specs.Verdict.{Verdict, Fine, Bad}

-- ---- one box of `moov`

-- what its `stsd` counts: nothing where it is no `trak`
abbrev count_of : ℕ → List ℕ → ℕ
count_of c b = if_eq c TRAK (stored_count (follow to_stsd b)) 0

module _ (most t n : ℕ) (x : Box) (l : List Box) (p : ℕ) where
  -- it does not pass `most`
  pass_more : n + count_of x.code x.body ≤ most → passing most n (stsds_from t (x ∷ l) p) ≡ passing most (n + count_of x.code x.body) (stsds_from (t + meant TRAK x.code) l (p + size x))
  unfolding passing
  pass_more h =
      meant_or TRAK x.code
      (λ e.
      let o : count_of x.code x.body ≡ stored_count (follow to_stsd x.body) = sym (eq_yea _ _ _ _ _ (track_code x e) refl) in
      rw (stsds_hit x e l t p, o, e) (sym (le_yea _ _ _ _ _ (omega arith) refl)))
      (λ e.
      let o : count_of x.code x.body ≡ 0 = sym (eq_nay _ _ _ _ _ (other_code x e) refl) in
      let z : t + 0 ≡ t = omega arith in
      let m : n + 0 ≡ n = omega arith in
      rw (stsds_miss x e l t p, o, e, z, m))

  -- it passes it
  pass_over : n ≤ most → most < n + count_of x.code x.body → passing most n (stsds_from t (x ∷ l) p) ≡ Bad (p + head x + place_along to_stsd x.body)
  unfolding passing
  pass_over k h =
      meant_or TRAK x.code
      (λ e.
      let o : count_of x.code x.body ≡ stored_count (follow to_stsd x.body) = sym (eq_yea _ _ _ _ _ (track_code x e) refl) in
      rw (stsds_hit x e l t p) (sym (le_nay _ _ _ _ _ (omega arith) refl)))
      (λ e. let o : count_of x.code x.body ≡ 0 = sym (eq_nay _ _ _ _ _ (other_code x e) refl) in absurd (omega arith))

-- ---- the walk

-- the boxes before place at, t tracks, count n sample entries, and what is broken is broken from there on
pub record Counted (most : ℕ) (xs : List ℕ) (base n at : ℕ) : Type 0 where
  pub t : ℕ
  pub is : passing most 0 (stsds_from 0 (boxes xs) base) ≡ passing most n (stsds_from t (boxes (drop at xs)) (base + at))
  pub few : n ≤ most
  pub inside : at ≤ length xs

pub counted_none : (most : ℕ) (xs : List ℕ) (base : ℕ) → Counted most xs base 0 0
counted_none most xs base = record { t = 0; is = let z : base + 0 ≡ base = omega arith in rw z; few = omega arith; inside = omega arith }

module _ {most : ℕ} {xs : List ℕ} {base n at : ℕ} (i : Counted most xs base n at) where
  -- one box more, of payload d, which counts m sample entries
  module _ {b : BoxAt} {w : Walk} (s : Ran xs at b w) {d : List ℕ} (g : d ≡ payload xs b) {m : ℕ} (e : m ≡ if_eq b.code TRAK (stored_count (follow to_stsd d)) 0) where
    pub counted_more : n + m ≤ most → Counted most xs base (n + m) w.at
    counted_more h =
        let k : m ≡ count_of b.code (payload xs b) = rw g at e in
        record {
          t = i.t + meant TRAK b.code;
          is = i.is ∙ rw (s.list, k, ← ran_next s base) (pass_more most i.t n (box_at xs b) (boxes (drop w.at xs)) (base + at) (omega arith));
          few = h;
          inside = omega (arith, s.next, s.inside);
        }

    pub counted_over : most < n + m → {r : Verdict} → r ≡ Bad (base + b.at + b.head + place_along to_stsd (payload xs b)) → r ≡ passing most 0 (stsds_from 0 (boxes xs) base)
    counted_over h {r} q =
        let z : base + b.at + b.head + place_along to_stsd (payload xs b) ≡ base + b.at + head_of b.form + place_along to_stsd (payload xs b) = omega (arith, s.head) in
        let k : m ≡ count_of b.code (payload xs b) = rw g at e in
        q ∙ ap Bad z ∙ sym (i.is ∙ rw (s.list, ← s.start) (pass_over most i.t n (box_at xs b) (boxes (drop w.at xs)) (base + b.at) i.few (omega arith)))

  pub counted_all : Over xs at → Fine ≡ passing most 0 (stsds_from 0 (boxes xs) base)
  unfolding stsds_from passing
  counted_all o = sym (i.is ∙ rw o.list)
