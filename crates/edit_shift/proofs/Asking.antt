-- What the walk over the tracks cites. Assumes nothing.
use Prim.Native.Nat.{ℕ, ◌+◌}
use native.Mathlib.Omega.{arith}
use mathlib.Core.Path.{◌≡◌, refl, sym, ap, ◌∙◌}
use mathlib.Core.Bool.{Bool, true, false}
use mathlib.Core.List.{List}
use Rattle.codes.specs.Codes.{TRAK, MOOV}
use Rattle.wire.specs.Numbers.{Bytes}
use Rattle.wire.specs.Sums.{all_to}
use Rattle.wire.proofs.Sums.{all_none, all_more, all_fails}
use Rattle.wire.proofs.Tests.{eq_yea, eq_nay}
use Rattle.boxes.specs.declared.walk.Walk.{Walk}
use Rattle.boxes.specs.declared.walk.BoxAt.{BoxAt}
use Rattle.boxes.specs.Boxes.{boxes}
use Rattle.boxes.specs.Walk.{payload, Ran, Over}
use Rattle.boxes.specs.Seek.{meant, count, find, nth, Cut, Passed}
use Rattle.boxes.proofs.Seeking.{passed_none, passed_more, passed_cut, passed_all}
use Rattle.boxes.proofs.Meaning.{meant_or, meant_is, meant_yes}
use Rattle.boxes.proofs.Cutting.{cut_payload, cut_some}
use Rattle.movie.specs.Movie.{track}
use Rattle.edit_shift.specs.Shift.{track_times, all_times}
use Rattle.edit_shift.specs.Amount.{box_times, tracks_times, moov_times}

-- the times of a file are those of its `moov`
pub times_moov : (p : ℕ → Bool) (xs : List ℕ) {ys : List ℕ} {r : Bool} → ys ≡ find MOOV (boxes xs) → r ≡ moov_times p ys → r ≡ all_times p xs
unfolding all_times moov_times tracks_times track
times_moov p xs e q = rw e at q

-- those of the tracks before place at may be shifted
pub record Timely (p : ℕ → Bool) (ys : List ℕ) (at : ℕ) : Type 0 where
  pub t : ℕ
  pub passed : Passed ys TRAK t at
  pub so_far : all_to (λ i. track_times p (nth TRAK i (boxes ys))) t ≡ true

module _ (p : ℕ → Bool) {ys : List ℕ} where
  pub timely_none : Timely p ys 0
  timely_none = record { t = 0; passed = passed_none ys TRAK; so_far = all_none _ }

  module _ {at : ℕ} (a : Timely p ys at) where
    module _ (v : Bytes ys) {b : BoxAt} {w : Walk} (s : Ran ys at b w) {d : List ℕ} (e : d ≡ payload ys b) {i : Bool} (g : i ≡ box_times p b.code d) where
      -- a track is the next one
      cut : meant TRAK b.code ≡ 1 → Cut ys TRAK a.t b
      cut h = passed_cut a.passed v s refl (omega arith) (omega arith)

      this : (h : meant TRAK b.code ≡ 1) → box_times p b.code d ≡ track_times p (nth TRAK a.t (boxes ys))
      unfolding box_times
      this h = sym (eq_yea _ _ _ _ _ (meant_is TRAK b.code (λ z. omega arith) h) (ap (track_times p) (sym (e ∙ cut_payload ys TRAK a.t b (cut h)))))

      other : meant TRAK b.code ≡ 0 → box_times p b.code d ≡ true
      unfolding box_times
      other h = sym (eq_nay _ _ _ _ _ (λ z. omega (arith, meant_yes TRAK b.code (λ y. omega arith) z)) refl)

      pub timely_more : i ≡ true → Timely p ys w.at
      timely_more n =
          meant_or TRAK b.code
          (λ h. record { t = a.t + 1; passed = passed_more a.passed v s (omega arith); so_far = all_more _ a.t a.so_far (sym (this h) ∙ sym g ∙ n) })
          (λ h. record { t = a.t; passed = passed_more a.passed v s (omega arith); so_far = a.so_far })

      pub timely_bad : i ≡ false → false ≡ tracks_times p ys
      unfolding tracks_times
      timely_bad n =
          meant_or TRAK b.code
          (λ h. sym (all_fails _ (count TRAK (boxes ys)) a.t (cut_some (cut h)) (sym (this h) ∙ sym g ∙ n)))
          (λ h. let z : true ≡ false = sym (other h) ∙ sym g ∙ n in absurd (let o : ◌≡◌ {A = ℕ} 0 1 = cc in omega arith))

    pub timely_all : Over ys at → true ≡ tracks_times p ys
    unfolding tracks_times
    timely_all o = sym (ap (all_to (λ i. track_times p (nth TRAK i (boxes ys)))) (sym (passed_all a.passed o).0) ∙ a.so_far)
