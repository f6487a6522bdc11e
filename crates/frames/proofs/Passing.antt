-- One pass over frames: what is counted, added up and marked of those passed, and what of those left. Assumes nothing.
use Prim.Native.Nat.{ℕ, ◌+◌, ◌<◌}
use native.Mathlib.Omega.{arith}
use mathlib.Core.Path.{◌≡◌, refl, sym, ap, ◌∙◌}
use mathlib.Core.List.{List, [], ◌∷◌}
use lib.ListN.{length, get_or, set, replicate, length-append, length-set, get_or-replicate}
use lib.Seq.{get_or-set_same, get_or-set_other}
use Rattle.wire.proofs.Tests.{eq_or, eq_yea, eq_nay}
use Rattle.wire.proofs.Sums.{sum_same}
use Rattle.frames.specs.Frames.{type_of, joined}
use Rattle.frames.specs.Modes.{type_bit, seen, mode_bit, mode_set, flag_bit, flagged, RunOf}

-- the flags once the types of frames are marked in them
unfoldable pub marked : List ℕ → List (List ℕ) → List ℕ
marked flags [] = flags
marked flags (f ∷ l) = marked (set flags (type_of f) 1) l

abbrev pub blank : List ℕ
blank = replicate 16 0

-- a flag that is set stays so
mark_stays : (flags : List ℕ) (l : List (List ℕ)) (t : ℕ) → t < length flags → get_or flags t 0 ≡ 1 → get_or (marked flags l) t 0 ≡ 1
unfolding marked
mark_stays flags [] t h e = e
mark_stays flags (f ∷ l) t h e =
    mark_stays (set flags (type_of f) 1) l t (rw length-set h)
    (eq_or t (type_of f) (λ q. rw q (get_or-set_same flags (type_of f) 1 0 (rw (← q) h))) (λ q. get_or-set_other flags (type_of f) t 1 0 q ∙ e))

-- and one that isn't tells whether the type is seen
mark_seen : (flags : List ℕ) (l : List (List ℕ)) (t : ℕ) → t < length flags → get_or flags t 0 ≡ 0 → get_or (marked flags l) t 0 ≡ seen t l
unfolding marked seen
mark_seen flags [] t h e = e
mark_seen flags (f ∷ l) t h e =
    eq_or (type_of f) t
    (λ q. eq_yea _ _ _ _ _ q (mark_stays (set flags (type_of f) 1) l t (rw length-set h) (rw q (get_or-set_same flags t 1 0 h))))
    (λ q. eq_nay _ _ _ _ _ q
    (mark_seen (set flags (type_of f) 1) l t (rw length-set h) (get_or-set_other flags (type_of f) t 1 0 (λ r. q (sym r)) ∙ e)))

pub marked_modes : (l : List (List ℕ)) → flagged (marked blank l) ≡ mode_set l
unfolding flagged mode_set flag_bit mode_bit type_bit
marked_modes l =
    sum_same (flag_bit (marked blank l)) (mode_bit l) 16 (λ t h. rw (mark_seen blank l t h (get_or-replicate 16 t 0 0 h)))

-- ---- the pass

pub record Passed (whole left : List (List ℕ)) (flags : List ℕ) (n at : ℕ) : Type 0 where
  pub sixteen : length flags ≡ 16
  pub count : length whole ≡ n + length left
  pub bytes : length (joined whole) ≡ at + length (joined left)
  pub marks : marked blank whole ≡ marked flags left

pub passed_none : (whole : List (List ℕ)) → Passed whole whole blank 0 0
passed_none whole = record { sixteen = refl; count = omega arith; bytes = omega arith; marks = refl }

pub passed_more : {whole l : List (List ℕ)} {f flags : List ℕ} {n at : ℕ} (t size : ℕ) → Passed whole (f ∷ l) flags n at → t ≡ type_of f → size ≡ length f
    → Passed whole l (set flags t 1) (n + 1) (at + size)
unfolding joined marked
passed_more {l = l} {f = f} t size p e s =
    record {
      sixteen = rw length-set p.sixteen;
      count = omega (arith, p.count);
      bytes = omega (arith, p.bytes, length-append f (joined l));
      marks = rw e p.marks;
    }

pub passed_all : {whole : List (List ℕ)} {flags : List ℕ} {n at : ℕ} (modes : ℕ) → Passed whole [] flags n at → modes ≡ flagged flags
    → RunOf whole (record { count = n; bytes = at; modes = modes })
unfolding joined marked
passed_all {whole} modes p e =
    record { count = omega (arith, p.count); bytes = omega (arith, p.bytes); modes = e ∙ ap flagged (sym p.marks) ∙ marked_modes whole }
