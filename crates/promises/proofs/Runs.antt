-- Demand 3, proved. Assumes nothing.
use Rattle.std.specs.Prelude.{Err}
use Prim.Native.Nat.{ℕ}
use mathlib.Core.Path.{◌≡◌, refl, ap, ◌∙◌}
use mathlib.Core.List.{List}
use Rattle.wire.specs.Numbers.{Bytes}
use Rattle.judge.specs.Judgement.{judged, Accepted}
use Rattle.promise_kept.specs.Kept.{Kept}
use Rattle.promise_kept.specs.Edits.{Given, meaning, left}
use Rattle.promise_kept.proofs.Keeping.{kept_refl, kept_then}
use Rattle.promise_kept.proofs.Done.{done_keeps, done_left}
use Rattle.promise_differs.proofs.Done.{done_differs}
use Rattle.promises.specs.Runs.{Lent, answer_of, go_on, goes_on, run, AllGiven, none, more}
use Rattle.promises.specs.Demand.{Edited, Step, EveryStep, Demand}
use Rattle.rule.specs.Answers.{Answer, Done, Refused}

-- ---- one edit

module _ (l : Lent) (xs : List ℕ) where
  goes : {a : Answer} → answer_of l xs ≡ a → goes_on l xs ≡ go_on a xs (left l.edit xs l.out)
  goes d = ap (λ (a : Answer). go_on a xs (left l.edit xs l.out)) d

  -- after an edit that is done, the file is exactly the one that the paper means, worked out afresh
  pub next_means : {n : ℕ} → answer_of l xs ≡ Done n → goes_on l xs ≡ meaning l.edit xs
  next_means d = goes d ∙ (done_left l.edit xs l.out d).1

  module _ (g : Given l.edit) (w : Bytes xs) where
    edited : {n : ℕ} → answer_of l xs ≡ Done n → Edited l.edit xs (meaning l.edit xs)
    edited d =
        let k = done_keeps l.edit g xs l.out w d in
        record { means = refl; kept = k.kept; follow = k.follow; differs = done_differs l.edit g xs l.out w d }

    step : Step (answer_of l xs) l.edit xs (goes_on l xs)
    step = go (answer_of l xs) refl
      where
        go : (a : Answer) → answer_of l xs ≡ a → Step a l.edit xs (goes_on l xs)
        go (Done n) d = rw (next_means d) ((done_left l.edit xs l.out d).0, edited d)
        go (Err e) d = goes d

    -- done or refused, it keeps an accepted file
    next_keeps : judged xs ≡ Accepted → Kept xs (goes_on l xs)
    next_keeps m = go (answer_of l xs) refl
      where
        go : (a : Answer) → answer_of l xs ≡ a → Kept xs (goes_on l xs)
        go (Done n) d = rw (next_means d) (edited d).kept
        go (Err e) d = rw (goes d) (kept_refl xs w m)

-- ---- any run

pub demand : {ls : List Lent} → AllGiven ls → (xs : List ℕ) → Bytes xs → judged xs ≡ Accepted → Demand ls xs
unfolding run EveryStep
demand none xs w m = record { steps = tt; last = kept_refl xs w m }
demand (more {l} {ls} g a) xs w m =
    let k = next_keeps l xs g w m in
    let d = demand a (goes_on l xs) k.bytes k.accepted in
    record { steps = (step l xs g w, d.steps); last = kept_then xs (goes_on l xs) (run ls (goes_on l xs)) k d.last }
