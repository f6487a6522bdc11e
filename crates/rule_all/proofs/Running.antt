-- The walk over the tracks: what holds of the first i of them, and of one more. Assumes nothing.
use Prim.Native.Nat.{ℕ, ◌+◌, ◌-◌, ◌≤◌, ◌<◌}
use native.Mathlib.Omega.{arith}
use mathlib.Core.Path.{◌≡◌, refl, sym, ap, subst, ◌∙◌}
use mathlib.Core.Bool.{true, not}
use mathlib.Core.List.{List}
use Rattle.wire.specs.Clauses.{is_eq}
use Rattle.wire.specs.Sums.{sum_to, all_to}
use Rattle.wire.proofs.Tests.{eq_or}
use Rattle.wire.proofs.Clauses.{not_eq}
use Rattle.wire.proofs.Sums.{sum_none, sum_more, all_none, all_more, all_of}
use Rattle.boxes.specs.Boxes.{boxes}
use Rattle.movie.specs.Movie.{movie, tracks, track}
use Rattle.rule_headers.specs.Identities.{identity, fresh, different}
use Rattle.rule_lists.specs.Five.{MOST}
use Rattle.rule_all.specs.declared.SoFar.{SoFar}
use Rattle.rule_all.specs.declared.TrackSays.{TrackSays}
use Rattle.rule_all.specs.Track.{Good, EntriesMeet, Judged}
use Rattle.rule_all.specs.Tracks.{entries_on, SureWith, Joined, Tracked}

-- the first i are good, their IDs differ, and the last three of those are at hand; at 11 their entries are fine too
pub record Run (xs : List ℕ) (i : ℕ) (p : SoFar) : Type 0 where
  pub most : i ≤ tracks xs
  pub over : 10 ≤ p.sure
  pub under : p.sure ≤ 11
  pub listed : 11 ≤ p.sure → (j : ℕ) → j < i → EntriesMeet (track xs j)
  pub each : (j : ℕ) → j < i → Good (boxes xs) (track xs j)
  pub fresh : all_to (λ j. fresh (movie xs) j j) i ≡ true
  pub sum : p.total ≡ sum_to (entries_on xs) i
  pub few : p.total ≤ MOST
  pub first : 1 ≤ i → p.one ≡ identity (movie xs) (i - 1)
  pub second : 2 ≤ i → p.two ≡ identity (movie xs) (i - 2)
  pub third : 3 ≤ i → p.three ≡ identity (movie xs) (i - 3)

pub run_none : (xs : List ℕ) → Run xs 0 (record { sure = 11; total = 0; one = 0; two = 0; three = 0 })
run_none xs =
    record {
      most = omega arith;
      over = omega arith;
      under = omega arith;
      listed = λ z j h. absurd (omega arith);
      each = λ j h. absurd (omega arith);
      fresh = all_none _;
      sum = sym (sum_none _);
      few = omega arith;
      first = λ h. absurd (omega arith);
      second = λ h. absurd (omega arith);
      third = λ h. absurd (omega arith);
    }

apart : (m n : ℕ) → (m ≡ n → ⊥) → not (is_eq m n) ≡ true
apart m n h = rw (not_eq m n h)

module _ {xs : List ℕ} {i : ℕ} {p : SoFar} (k : Run xs i p) where
  module _ (h : i < tracks xs) (four : tracks xs ≤ 4) {t : TrackSays} (j : Judged (boxes xs) (track xs i) t) where
    own : t.identity ≡ identity (movie xs) i
    unfolding identity track
    own = j.identity

    new : {r : ℕ} → SureWith p i t r → 10 ≤ r → fresh (movie xs) i i ≡ true
    unfolding fresh
    new a q =
        all_of _ i (λ n l. apart _ _ (λ e.
        eq_or n (i - 1) (λ d. a.first q (omega arith) (own ∙ sym e ∙ ap (identity (movie xs)) d ∙ sym (k.first (omega arith))))
        (λ d. eq_or n (i - 2) (λ f. a.second q (omega arith) (own ∙ sym e ∙ ap (identity (movie xs)) f ∙ sym (k.second (omega arith))))
        (λ f. a.third q (omega arith) (own ∙ sym e ∙ ap (identity (movie xs)) (omega arith) ∙ sym (k.third (omega arith)))))))

    pub run_more : {r : SoFar} → Joined p i t r → 10 ≤ r.sure → Run xs (i + 1) r
    run_more a q =
        let l : i + 1 - 1 ≡ i = omega arith in
        let s : i + 1 - 2 ≡ i - 1 = omega arith in
        let u : i + 1 - 3 ≡ i - 2 = omega arith in
        let z = a.sure.good q in
        let f = a.sure.least q in
        record {
          most = omega arith;
          over = q;
          under = omega (arith, k.under);
          listed = λ y n l. eq_or n i (λ e. rw e (j.listed (omega arith))) (λ e. k.listed (omega arith) n (omega arith));
          each = λ n l. eq_or n i (λ e. rw e (j.good z)) (λ e. k.each n (omega arith));
          fresh = all_more _ i k.fresh (new a.sure q);
          sum = omega (arith, k.sum, sum_more (entries_on xs) i, j.entries, a.total);
          few = omega (arith, a.total, a.sure.few q);
          first = λ y. a.one ∙ rw l own;
          second = λ y. a.two ∙ rw s (k.first (omega arith));
          third = λ y. a.three ∙ rw u (k.second (omega arith));
        }

  pub run_end : tracks xs ≤ i → Tracked xs p.sure
  unfolding different
  run_end h =
      let e : i ≡ tracks xs = omega (arith, k.most) in
      record {
        low = λ z. absurd (omega (arith, k.over));
        most = k.under;
        listed = λ z n l. k.listed z n (omega arith);
        each = λ z n l. k.each n (omega arith);
        differ = λ z. subst (λ (n : ℕ). all_to (λ j. fresh (movie xs) j j) n ≡ true) e k.fresh;
        few = λ z. subst (λ (n : ℕ). sum_to (entries_on xs) n ≤ MOST) e (omega (arith, k.sum, k.few));
      }

pub run_broken : (xs : List ℕ) → Tracked xs 2
run_broken xs =
    record {
      low = λ z. refl;
      most = omega arith;
      each = λ z. absurd (omega arith);
      differ = λ z. absurd (omega arith);
      few = λ z. absurd (omega arith);
      listed = λ z. absurd (omega arith);
    }
