-- The first sample that fails, as the loop over them finds it, and as numbers. Assumes nothing.
use Prim.Native.Nat.{ℕ, ◌+◌, ◌-◌, ◌≤◌, ◌<◌}
use native.Mathlib.Omega.{arith}
use mathlib.Core.Path.{◌≡◌, refl, sym, ap, ◌∙◌}
use mathlib.Core.List.{List, [], ◌∷◌}
use lib.ListN.{length, drop, set, length-drop}
use lib.Seq.{drop-length, sets-eq}
use Rattle.rule.specs.Results.{Exact}
use Rattle.rule.specs.Results.ToWrite.{gives}
use Rattle.rule.proofs.Results.{exact_short, exact_wrote}
use Rattle.sample_walk.specs.declared.walk.Sample.{Sample}
use Rattle.std.specs.declared.option.Option.{Option}
use Rattle.std.specs.declared.option.Option.TheVariants.{Some, None}
use Rattle.modes.specs.declared.reason.Reason.{Reason}
use Rattle.modes.specs.Sample.{reason_number}
use Rattle.modes.specs.declared.Failing.{Failing}
use Rattle.modes.specs.Track.{failing_from, failing_numbers}
use Rattle.rule.specs.Answers.{Done, Refused}

-- ---- the loop: no sample before number n fails

abbrev pub Passing : (Sample → ℕ → Option Reason) → List Sample → ℕ → Type 0
Passing f l n = failing_from f 1 l ≡ failing_from f (n + 1) (drop n l)

pub passing_none : (f : Sample → ℕ → Option Reason) (l : List Sample) → Passing f l 0
passing_none f l = refl

module _ (f : Sample → ℕ → Option Reason) (l : List Sample) (n : ℕ) (p : Passing f l n) where
  -- past the last
  pub passing_all : length l ≡ n → None ≡ failing_from f 1 l
  unfolding failing_from
  passing_all e = let d : drop n l ≡ [] = rw (← e) (drop-length l) in sym (p ∙ rw d)

  module _ {s : Sample} (d : drop n l ≡ s ∷ drop (n + 1) l) {left : ℕ} {why : Option Reason} (r : left ≡ length l - (n + 1)) (w : why ≡ f s left) where
    same : why ≡ f s (length (drop (n + 1) l))
    same = w ∙ ap (f s) (r ∙ sym (length-drop (n + 1) l))

    pub passing_not : {reason : Reason} → why ≡ Some reason → {m : ℕ} → m ≡ n + 1 → Some (record { number = m; why = reason }) ≡ failing_from f 1 l
    unfolding failing_from
    passing_not {reason} z e = let q : f s (length (drop (n + 1) l)) ≡ Some reason = sym same ∙ z in sym (p ∙ rw (d, q, e))

    pub passing_more : why ≡ None → {m : ℕ} → m ≡ n + 1 → Passing f l m
    unfolding failing_from
    passing_more z e = let q : f s (length (drop (n + 1) l)) ≡ None = sym same ∙ z in rw e (p ∙ rw (d, q))

-- ---- the answer

pub none_fails : (out : List ℕ) → Exact (gives (failing_numbers None)) out (Done 0) out
unfolding failing_numbers
none_fails out = exact_wrote [] out (omega arith) (record { span = refl; is = refl })

module _ (f : Failing Reason) (out : List ℕ) where
  pub fails_short : length out < 2 → Exact (gives (failing_numbers (Some f))) out (Refused 25 0) out
  unfolding failing_numbers
  fails_short h = exact_short _ out h

  pub fails_told : 2 ≤ length out → {r : ℕ} → r ≡ reason_number f.why → Exact (gives (failing_numbers (Some f))) out (Done 2) (set (set out 0 f.number) 1 r)
  unfolding failing_numbers
  fails_told h e = rw e (exact_wrote _ out h (record { span = refl; is = sets-eq (f.number ∷ reason_number f.why ∷ []) out 0 h }))
