-- The tracks of a file, filled in one by one. Assumes nothing.
use Prim.Native.Nat.{ℕ, ◌+◌, ◌≤◌, ◌<◌}
use native.Mathlib.Omega.{arith}
use mathlib.Core.Path.{◌≡◌, refl, sym, subst, ◌∙◌}
use mathlib.Core.List.{List}
use Rattle.wire.specs.Tests.{if_eq}
use Rattle.wire.proofs.Tests.{eq_or, lt_or}
use Rattle.movie.specs.Movie.{tracks}
use Rattle.layout.specs.declared.every.ReadTrack.{ReadTrack}
use Rattle.layout.specs.declared.every.Tracks.{Tracks}
use Rattle.layout.specs.Every.{blank_of, blanks_of, track_of, with_track, TrackAt, TracksAt}
use Rattle.layout.proofs.Everything.{blank_at}
use Rattle.layout.proofs.Few.{by_four}

-- the first i tracks are there, and those that the file hasn't
pub record Filled (xs : List ℕ) (i : ℕ) (e : Tracks) : Type 0 where
  pub count : e.count ≡ tracks xs
  pub there : (t : ℕ) → t < 4 → t < i → TrackAt xs t (track_of e t)
  pub past : (t : ℕ) → t < 4 → tracks xs ≤ t → TrackAt xs t (track_of e t)

blank_of_lem : (n t : ℕ) → t < 4 → track_of (blanks_of n) t ≡ blank_of
unfolding track_of
blank_of_lem n t h = by_four (λ j k. k ≡ blank_of) refl refl refl refl t h

pub filled_none : (xs : List ℕ) {n : ℕ} {e : Tracks} → e ≡ blanks_of n → n ≡ tracks xs → Filled xs 0 e
filled_none xs {n} q c =
    rw q (record { count = c; there = λ t h z. absurd (omega arith); past = λ t h z. blank_at xs t (blank_of_lem n t h) z })

-- ---- one more

one_of : {A : Type 0} (t : ℕ) → t < 4 → (t ≡ 0 → A) → (t ≡ 1 → A) → (t ≡ 2 → A) → (t ≡ 3 → A) → A
one_of t h a b c d = eq_or t 0 a (λ n. eq_or t 1 b (λ m. eq_or t 2 c (λ o. d (omega arith))))

-- what track k in place of number i leaves and puts
abbrev Put : Tracks → ReadTrack → ℕ → Tracks → Type 0
Put e k i r =
    (r.count ≡ e.count) × (track_of r i ≡ k) × ((t : ℕ) → t < 4 → (i ≡ t → ⊥) → track_of r t ≡ track_of e t)

put : (e : Tracks) (k : ReadTrack) (i : ℕ) → i < 4 → Put e k i (with_track e i k)
unfolding track_of with_track if_eq
put e k i h =
    by_four (Put e k)
    (refl, refl, λ t l z. one_of t l (λ q. absurd (z (sym q))) (λ q. rw q) (λ q. rw q) (λ q. rw q))
    (refl, refl, λ t l z. one_of t l (λ q. rw q) (λ q. absurd (z (sym q))) (λ q. rw q) (λ q. rw q))
    (refl, refl, λ t l z. one_of t l (λ q. rw q) (λ q. rw q) (λ q. absurd (z (sym q))) (λ q. rw q))
    (refl, refl, λ t l z. one_of t l (λ q. rw q) (λ q. rw q) (λ q. rw q) (λ q. absurd (z (sym q)))) i h

module _ {xs : List ℕ} {i : ℕ} {e : Tracks} (f : Filled xs i e) where
  pub filled_more : i < tracks xs → i < 4 → {k : ReadTrack} {r : Tracks} → TrackAt xs i k → r ≡ with_track e i k → Filled xs (i + 1) r
  filled_more h m {k} a q =
      let p = put e k i m in
      rw q (record {
        count = p.0 ∙ f.count;
        there = λ t n l. eq_or t i (λ d. rw d (subst (TrackAt xs i) (sym p.1) a)) (λ d. rw (p.2 t n (λ y. d (sym y))) (f.there t n (omega arith)));
        past = λ t n l. rw (p.2 t n (λ d. omega arith)) (f.past t n l);
      })

  at : tracks xs ≤ i → (t : ℕ) → t < 4 → TrackAt xs t (track_of e t)
  at h t n = lt_or t (tracks xs) (λ l. f.there t n (omega arith)) (λ l. f.past t n l)

  pub filled_all : tracks xs ≤ i → TracksAt xs e
  unfolding track_of if_eq
  filled_all h = record { count = f.count; one = at h 0 (omega arith); two = at h 1 (omega arith); three = at h 2 (omega arith); four = at h 3 (omega arith) }
