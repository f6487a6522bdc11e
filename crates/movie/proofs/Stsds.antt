-- The list of the `stsd`s of a file: each is the one of its track. Assumes nothing.
use Prim.Native.Nat.{ℕ, suc, ◌+◌, ◌<◌}
use native.Mathlib.Omega.{arith}
use mathlib.Core.Path.{◌≡◌, refl, sym, ap, subst, ◌∙◌}
use mathlib.Core.List.{List, [], ◌∷◌}
use lib.ListN.{length, take, drop}
use Rattle.wire.specs.Tests.{if_eq}
use Rattle.codes.specs.Codes.{MOOV, TRAK, STSD}
use Rattle.boxes.specs.declared.walk.Form.TheVariants.{Plain}
use Rattle.boxes.specs.Box.{Box, head, size}
use Rattle.boxes.specs.Boxes.{boxes}
use Rattle.boxes.specs.Containers.{parent, kind_in}
use Rattle.boxes.specs.Way.{box_by}
use Rattle.boxes.specs.Seek.{meant, count, nth, start_in}
use Rattle.boxes.specs.Kin.{All2, Leaf, KinBox, Kin}
use Rattle.boxes.specs.Kin.All2.{nil as none2, cons as more2}
use Rattle.boxes.proofs.Meaning.{meant_or, meant_is, count_hit, count_miss, nth_hit, nth_next, nth_miss, place_hit, place_next, place_miss}
use Rattle.boxes.proofs.Numbered.{by_number}
use Rattle.movie.specs.Movie.{movie, tracks, track}
use Rattle.movie.specs.Stsds.{Stsd, stsd_of, stsds_from, stsds, standing}
use Rattle.movie.specs.Named.{stsd_at}
use Rattle.movie.proofs.Boxed.{stsds_hit, stsds_miss}

-- ---- by number

-- number n of the boxes l of `moov`, which stand from place p on after t tracks
abbrev stsd_nth : ℕ → List Box → ℕ → ℕ → Stsd
stsd_nth t l p n = stsd_of (t + 1 + n) (nth TRAK n l) (p + start_in TRAK n l)

module _ (x : Box) (l : List Box) (t p : ℕ) where
  number_first : meant TRAK x.code ≡ 1 → stsd_nth t (x ∷ l) p 0 ≡ stsd_of (t + 1) x.body (p + head x)
  unfolding start_in
  number_first e = let z : t + 1 + 0 ≡ t + 1 = omega arith in rw (z, nth_hit TRAK x l e, place_hit TRAK x l e head)

  number_next : meant TRAK x.code ≡ 1 → (n : ℕ) → stsd_nth t (x ∷ l) p (suc n) ≡ stsd_nth (t + 1) l (p + size x) n
  unfolding start_in
  number_next e n =
      let z : t + 1 + suc n ≡ t + 1 + 1 + n = omega arith in
      let s : p + (size x + start_in TRAK n l) ≡ p + size x + start_in TRAK n l = omega arith in
      rw (z, nth_next TRAK x l e n, place_next TRAK x l e head n, s)

  number_miss : meant TRAK x.code ≡ 0 → (n : ℕ) → stsd_nth t (x ∷ l) p n ≡ stsd_nth t l (p + size x) n
  unfolding start_in
  number_miss e n =
      let s : p + (size x + start_in TRAK n l) ≡ p + size x + start_in TRAK n l = omega arith in
      rw (nth_miss TRAK x l e n, place_miss TRAK x l e head n, s)

-- ---- each of them

-- after t tracks, numbers that go up by one, and each as P says
pub data Each (P : Stsd → Type 0) : ℕ → List Stsd → Type 0 where
  none : {t : ℕ} → Each P t []
  more : {t : ℕ} {s : Stsd} {l : List Stsd} → s.track ≡ t + 1 → P s → Each P (t + 1) l → Each P t (s ∷ l)

module _ (P : Stsd → Type 0) where
  -- what holds by number holds of each
  pub each_from : (l : List Box) (t p : ℕ) → ((n : ℕ) → n < count TRAK l → P (stsd_of (t + 1 + n) (nth TRAK n l) (p + start_in TRAK n l))) → Each P t (stsds_from t l p)
  unfolding stsds_from
  each_from [] t p h = none
  each_from (x ∷ l) t p h =
      meant_or TRAK x.code
      (λ e.
      rw (stsds_hit x e l t p)
      (more refl (subst P (number_first x l t p e) (h 0 (omega (arith, count_hit TRAK x l e))))
      (each_from l (t + 1) (p + size x) (λ n k. subst P (number_next x l t p e n) (h (suc n) (omega (arith, count_hit TRAK x l e)))))))
      (λ e. rw (stsds_miss x e l t p) (each_from l t (p + size x) (λ n k. subst P (number_miss x l t p e n) (h n (omega (arith, count_miss TRAK x l e))))))

  head_of : {t : ℕ} {s : Stsd} {l : List Stsd} → Each P t (s ∷ l) → P s
  head_of (more q h a) = h

  tail_of : {t : ℕ} {s : Stsd} {l : List Stsd} → Each P t (s ∷ l) → Each P (t + 1) l
  tail_of (more q h a) = a

  -- and back
  pub each_at : (n : ℕ) (l : List Box) (t p : ℕ) → Each P t (stsds_from t l p) → n < count TRAK l → P (stsd_of (t + 1 + n) (nth TRAK n l) (p + start_in TRAK n l))
  unfolding count
  each_at =
      by_number TRAK (λ n l. (t p : ℕ) → Each P t (stsds_from t l p) → n < count TRAK l → P (stsd_nth t l p n))
      (λ n t p a k. absurd (omega arith))
      (λ n x l e ih t p a k. subst P (sym (number_miss x l t p e n)) (ih t (p + size x) (rw (stsds_miss x e l t p) at a) (omega arith)))
      (λ x l e t p a k. subst P (sym (number_first x l t p e)) (head_of (rw (stsds_hit x e l t p) at a)))
      (λ n x l e ih t p a k. subst P (sym (number_next x l t p e n)) (ih (t + 1) (p + size x) (tail_of (rw (stsds_hit x e l t p) at a)) (omega arith)))

  -- those of a file
  pub each_stsd : (xs : List ℕ) → ((n : ℕ) → n < tracks xs → P (stsd_at xs n)) → Each P 0 (stsds xs)
  unfolding stsds track
  each_stsd xs h = each_from (movie xs) 0 (start_in MOOV 0 (boxes xs)) (λ n k. let z : 0 + 1 + n ≡ n + 1 = omega arith in rw z (h n k))

-- ---- what stands at their places

abbrev span : List ℕ → Stsd → List ℕ
span xs s = box_by Plain STSD (take (length s.body) (drop s.start xs))

standing_from : (xs : List ℕ) (n : ℕ) (l : List Box) (t p : ℕ) → n < count TRAK l → standing xs (stsds_from t l p) n ≡ span xs (stsd_nth t l p n)
unfolding count standing
standing_from xs =
    by_number TRAK (λ n l. (t p : ℕ) → n < count TRAK l → standing xs (stsds_from t l p) n ≡ span xs (stsd_nth t l p n))
    (λ n t p k. absurd (omega arith))
    (λ n x l e ih t p k. ap (λ (m : List Stsd). standing xs m n) (stsds_miss x e l t p) ∙ ih t (p + size x) (omega arith) ∙ ap (span xs) (sym (number_miss x l t p e n)))
    (λ x l e t p k. ap (λ (m : List Stsd). standing xs m 0) (stsds_hit x e l t p) ∙ ap (span xs) (sym (number_first x l t p e)))
    (λ n x l e ih t p k. ap (λ (m : List Stsd). standing xs m (suc n)) (stsds_hit x e l t p) ∙ ih (t + 1) (p + size x) (omega arith) ∙ ap (span xs) (sym (number_next x l t p e n)))

pub standing_at : (xs : List ℕ) (n : ℕ) → n < tracks xs → standing xs (stsds xs) n ≡ box_by Plain STSD (take (length (stsd_at xs n).body) (drop (stsd_at xs n).start xs))
unfolding stsds track
standing_at xs n k = standing_from xs n (movie xs) 0 (start_in MOOV 0 (boxes xs)) k

-- ---- those of two related files

-- one by one, the tracks as Q says
pub data Pairs (Q : List ℕ → List ℕ → Type 0) : List Stsd → List Stsd → Type 0 where
  nil : Pairs Q [] []
  cons : (t u p q : ℕ) {b b' : List ℕ} {l m : List Stsd} → Q b b' → Pairs Q l m → Pairs Q (stsd_of t b p ∷ l) (stsd_of u b' q ∷ m)

module _ (Q : List ℕ → List ℕ → Type 0) (G : Leaf) (d : ℕ) (h : (b b' : List ℕ) → Kin G d TRAK b b' → Q b b') where
  kin_track : (x y : Box) → KinBox G (λ j us vs. Kin G d j us vs) MOOV x y → x.code ≡ TRAK → Q x.body y.body
  unfolding kind_in parent if_eq
  kin_track x y r e =
      h x.body y.body (subst (λ (i : ℕ). Kin G d (kind_in MOOV i) x.body y.body) e (r.node (λ z. let t : TRAK ≡ 0 = ap (kind_in MOOV) (sym e) ∙ z in omega arith)))

  kin_from : {l m : List Box} → All2 (KinBox G (λ j us vs. Kin G d j us vs) MOOV) l m → (t u p q : ℕ) → Pairs Q (stsds_from t l p) (stsds_from u m q)
  unfolding stsds_from
  kin_from none2 t u p q = nil
  kin_from (more2 {x} {y} {l} {m} r a) t u p q =
      meant_or TRAK x.code
      (λ e.
      let f : meant TRAK y.code ≡ 1 = rw r.code at e in
      rw (stsds_hit x e l t p, stsds_hit y f m u q) (cons (t + 1) (u + 1) (p + head x) (q + head y) (kin_track x y r (meant_is TRAK x.code (λ z. omega arith) e)) (kin_from a (t + 1) (u + 1) (p + size x) (q + size y))))
      (λ e. let f : meant TRAK y.code ≡ 0 = rw r.code at e in rw (stsds_miss x e l t p, stsds_miss y f m u q) (kin_from a t u (p + size x) (q + size y)))

  pub kin_stsds : (xs ys : List ℕ) → Kin G (suc d) MOOV xs ys → (p q : ℕ) → Pairs Q (stsds_from 0 (boxes xs) p) (stsds_from 0 (boxes ys) q)
  kin_stsds xs ys a p q = kin_from a.0 0 0 p q
