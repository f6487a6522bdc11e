-- Which track an entry is in, by the walk over the boxes of `moov`. Assumes nothing.
use Prim.Native.Nat.{ℕ, ◌+◌, ◌-◌, ◌≤◌, ◌<◌}
use native.Mathlib.Omega.{arith}
use mathlib.Core.Path.{◌≡◌, refl, sym, ap, ◌∙◌}
use mathlib.Core.List.{List, [], ◌∷◌, ◌++◌}
use lib.ListN.{length, drop, length-drop}
use lib.Seq.{drop-nil, drop-append-le}
use Rattle.codes.specs.Codes.{TRAK}
use Rattle.wire.specs.Numbers.{Bytes}
use Rattle.wire.proofs.Lists.{drop_past}
use Rattle.boxes.specs.declared.walk.Walk.{Walk}
use Rattle.boxes.specs.declared.walk.BoxAt.{BoxAt}
use Rattle.boxes.specs.Box.{Box, head, size}
use Rattle.boxes.specs.Boxes.{boxes}
use Rattle.boxes.specs.Walk.{payload, box_at, Ran, Over}
use Rattle.boxes.specs.Seek.{ANY, meant, count, start_in, Cut, Passed}
use Rattle.boxes.proofs.Placing.{start_at}
use Rattle.boxes.proofs.Seeking.{ran_next, passed_none, passed_more, passed_cut}
use Rattle.boxes.proofs.Meaning.{meant_or}
use Rattle.boxes.proofs.Cutting.{cut_payload, cut_some}
use Rattle.movie.specs.Stsds.{stsd_of, stsds_from}
use Rattle.movie.specs.Entries.{entries_of, entries_in}
use Rattle.movie.specs.Named.{list_in, held, InTrack}
use Rattle.movie.proofs.Boxed.{held_hit, after_hit, held_miss, after_miss}
use Rattle.movie.proofs.Counting.{length_of}

-- ---- one box of `moov`

module _ (t : ℕ) (x : Box) (l : List Box) (p n : ℕ) where
  -- the entry is past it
  after_past : held x.code x.body ≤ n → drop n (entries_in (stsds_from t (x ∷ l) p)) ≡ drop (n - held x.code x.body) (entries_in (stsds_from (t + meant TRAK x.code) l (p + size x)))
  after_past h =
      let k = held x.code x.body in
      meant_or TRAK x.code
      (λ e.
      let m : n ≡ k + (n - k) = omega arith in
      let o = length_of (t + 1) x.body (p + head x) ∙ sym (held_hit x e) in
      rw (after_hit x e l t p, e) (ap (λ (j : ℕ). drop j (entries_of (stsd_of (t + 1) x.body (p + head x)) ++ entries_in (stsds_from (t + 1) l (p + size x)))) m ∙ drop_past (entries_of (stsd_of (t + 1) x.body (p + head x))) (entries_in (stsds_from (t + 1) l (p + size x))) k (n - k) o))
      (λ e.
      let z : t + 0 ≡ t = omega arith in
      let m : n - k ≡ n = omega (arith, held_miss x e) in
      rw (after_miss x e l t p, e, z, m))

  -- it is in it
  after_in : n < held x.code x.body → (meant TRAK x.code ≡ 1) × (n < count ANY (boxes (list_in x.body))) × (drop n (entries_in (stsds_from t (x ∷ l) p)) ≡ drop n (entries_of (stsd_of (t + 1) x.body (p + head x))) ++ entries_in (stsds_from (t + 1) l (p + size x)))
  after_in h =
      meant_or TRAK x.code
      (λ e.
      let k = held_hit x e in
      (e, omega arith, rw (after_hit x e l t p) (drop-append-le n (entries_of (stsd_of (t + 1) x.body (p + head x))) (entries_in (stsds_from (t + 1) l (p + size x))) (omega (arith, length_of (t + 1) x.body (p + head x))))))
      (λ e. absurd (omega (arith, held_miss x e)))

-- ---- the walk

-- before place at there are t tracks, and entry i is number `left` from there on
pub record Gone (ys : List ℕ) (i t left at : ℕ) : Type 0 where
  pub passed : Passed ys TRAK t at
  pub is : (p : ℕ) → drop i (entries_in (stsds_from 0 (boxes ys) p)) ≡ drop left (entries_in (stsds_from t (boxes (drop at ys)) (p + at)))

pub gone_none : (ys : List ℕ) (i : ℕ) → Gone ys i 0 i 0
gone_none ys i = record { passed = passed_none ys TRAK; is = λ p. let z : p + 0 ≡ p = omega arith in rw z }

module _ {ys : List ℕ} {i t left at : ℕ} (g : Gone ys i t left at) where
  module _ {b : BoxAt} {w : Walk} (v : Bytes ys) (s : Ran ys at b w) {d : List ℕ} (f : d ≡ payload ys b) {n : ℕ} (e : n ≡ held b.code d) where
    pub gone_more : n ≤ left → {m : ℕ} → m ≡ meant TRAK b.code → Gone ys i (t + m) (left - n) w.at
    gone_more h o =
        let k : n ≡ held b.code (payload ys b) = rw f at e in
        record { passed = passed_more g.passed v s (ap (λ (j : ℕ). t + j) o); is = λ p. g.is p ∙ rw (s.list, o, k, ← ran_next s p) (after_past t (box_at ys b) (boxes (drop w.at ys)) (p + at) left (omega arith)) }

    pub gone_in : left < n → InTrack ys i t left
    gone_in h =
        let k : n ≡ held b.code (payload ys b) = rw f at e in
        let a = after_in t (box_at ys b) (boxes (drop w.at ys)) at left (omega arith) in
        let m = a.0 in
        let c : Cut ys TRAK t b = passed_cut g.passed v s refl (omega arith) (omega arith) in
        let z = (start_at TRAK t ys v c).0 in
        let y = cut_payload ys TRAK t b c in
        record {
          some = cut_some c;
          small = omega (arith, g.passed.few, g.passed.inside);
          few = rw (← y) a.1;
          rest = λ p. entries_in (stsds_from (t + 1) (boxes (drop w.at ys)) (p + at + size (box_at ys b)));
          is = λ p.
              let q : p + start_in TRAK t (boxes ys) ≡ p + at + head (box_at ys b) = omega (arith, z, s.start, s.head) in
              g.is p ∙ rw (s.list, ← y, q) (after_in t (box_at ys b) (boxes (drop w.at ys)) (p + at) left (omega arith)).2;
        }

  pub gone_past : Over ys at → (p : ℕ) → length (entries_in (stsds_from 0 (boxes ys) p)) ≤ i
  unfolding stsds_from entries_in
  gone_past o p =
      let e : drop i (entries_in (stsds_from 0 (boxes ys) p)) ≡ [] = g.is p ∙ rw o.list (drop-nil left) in
      omega (arith, length-drop i (entries_in (stsds_from 0 (boxes ys) p)), ap length e)
