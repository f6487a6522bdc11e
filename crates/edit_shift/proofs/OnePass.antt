-- What the one pass over `moov` leaves is the rewriting that is meant. Assumes nothing.
use Prim.Native.Nat.{ℕ, ◌<◌}
use native.Mathlib.Omega.{arith}
use mathlib.Core.Path.{◌≡◌, refl, ap, ◌∙◌}
use mathlib.Core.Bool.{Bool, true, false}
use mathlib.Core.List.{List, ◌++◌}
use lib.Dec.{eqb}
use borrow.Author.Tests.{ne_eqb}
use lib.ListN.{length, drop}
use Rattle.codes.specs.Codes.{MOOV, MVHD, TRAK, TKHD, MDIA, MDHD}
use Rattle.wire.specs.Tests.{pick, if_eq}
use Rattle.wire.specs.Clauses.{is_eq, every, either}
use Rattle.wire.proofs.Tests.{eq_or}
use Rattle.wire.specs.Numbers.{Bytes}
use Rattle.wire.specs.Writing.{Wrote}
use Rattle.boxes.specs.declared.walk.BoxAt.{BoxAt}
use Rattle.boxes.specs.declared.words.Targets.{Targets}
use Rattle.boxes.specs.Containers.{FILE, DEPTH}
use Rattle.boxes.specs.Seek.{Cut}
use Rattle.boxes.specs.Walk.{payload}
use Rattle.boxes.specs.Rewrite.{Leaves, edit_in, in_body}
use Rattle.boxes.specs.Words.{reword, reword_leaf, target_in, reword_each}
use Rattle.boxes.proofs.Aiming.{each_none, each_length}
use Rattle.boxes.proofs.InMoov.{only_moov, moov_edit}
use Rattle.boxes.proofs.Meaning.{meant_is}
use Rattle.judge.specs.Acceptance.{Meets}
use Rattle.edit_offsets.specs.Close.{closed, closed_at}
use Rattle.edit_offsets.proofs.Accepted.{one_moov}
use Rattle.edit_offsets.proofs.ClosedFile.{bytes_closed}
use Rattle.edit_offsets.proofs.ClosingHere.{closed_file, only_closed}
use Rattle.edit_shift.specs.Shift.{has_times, times_leaf, all_times_by}
use Rattle.edit_shift.specs.Amount.{headers_of}

-- ---- one opaque box

-- in each kind of container with times the one code that has them
leaf_is : (f : ℕ → ℕ) (k c : ℕ) (b : List ℕ) → reword_each headers_of f k c b ≡ times_leaf f k c b
unfolding reword_each target_in reword_leaf times_leaf has_times if_eq is_eq every either
leaf_is f k c b =
    eq_or k MOOV
    (λ e. rw e (go (eqb c MVHD)))
    (λ m. eq_or k TRAK
    (λ e. rw e (go (eqb c TKHD)))
    (λ t. eq_or k MDIA (λ e. rw e (go (eqb c MDHD))) (λ d. rw (ne_eqb k MOOV m, ne_eqb k TRAK t, ne_eqb k MDIA d))))
  where
    go : (s : Bool) → pick s (reword f 4 8 b) b ≡ pick (pick (pick s true false) true false) (reword f 4 8 b) b
    go true = refl
    go false = refl

-- ---- a file

-- written, and then its times by f where they stand
pub one_pass : (f : ℕ → ℕ) (xs : List ℕ) → Bytes xs → Meets xs → {b : BoxAt} → Cut xs MOOV 0 b → {out mid made after : List ℕ} {n : ℕ} {ts : Targets} → Wrote xs out n mid → made ≡ closed_at b mid
    → ts ≡ headers_of → after ≡ in_body made b (edit_in (reword_each ts f) 5 MOOV (payload made b)) → after ≡ all_times_by f (closed xs) ++ drop (length xs) out
unfolding all_times_by
one_pass f xs v m {b} c {out = out} {n = n} w g e q =
    let k = meant_is MOOV b.code (λ z. omega arith) c.hit in
    let s : length xs < 4294967296 = omega (arith, m.most) in
    let o = only_closed v s (only_moov v (one_moov xs m) c k) in
    let y = g ∙ ap (closed_at b) w.is ∙ closed_file xs (drop n out) v (one_moov xs m) c k in
    let z = moov_edit (reword_each headers_of f)
    (λ c d. each_none headers_of f FILE c d (λ z. omega arith) (λ z. omega arith) (λ z. omega arith)) (each_length headers_of f) (closed xs) (drop n out) (bytes_closed xs v s) b o in
    rw (e, y) at q ∙ z ∙ ap (λ (g : Leaves). edit_in g DEPTH FILE (closed xs) ++ drop n out) (λ i k c b. leaf_is f k c b i) ∙ rw w.span
