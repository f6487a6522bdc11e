-- A function of the face promises what the call behind it does. Assumes nothing.
use Prim.Native.Nat.{ℕ, ◌+◌, ◌*◌, ◌≤◌}
use mathlib.Core.Path.{◌≡◌, refl, ap, ◌∙◌}
use mathlib.Core.List.{List, [], ◌∷◌}
use lib.ListN.{length, set}
use lib.Seq.{sets-eq}
use Rattle.clocks.specs.Clocks.{order_number}
use Rattle.rule.specs.Results.{ToWrite, Exact, Reports}
use Rattle.rule.proofs.Results.{exact_refuses, exact_wrote}
use Rattle.newer.specs.declared.Part.{Part}
use Rattle.threegp.specs.Answers.{packed, ForC, ReportsForC, newer_result, Told}
use Rattle.rule.specs.Answers.{Answer, Done, Refused}
use Rattle.newer.specs.Newer.{Outcome, Found, RefusedIn}

pub packs : {r : ℕ} {a b : Answer} → r ≡ packed a → a ≡ b → r ≡ packed b
packs e f = e ∙ ap packed f

pub for_c : {g : ToWrite} {out : List ℕ} {r : ℕ} {a : Answer} {left : List ℕ} → r ≡ packed a → Exact g out a left → ForC g out r left
for_c e x = record { answers = packs e x.answers; leaves = x.leaves }

pub reports_for_c : {g : ToWrite} {numbers out : List ℕ} {r : ℕ} {a : Answer} {left room after : List ℕ} → r ≡ packed a
    → Reports g numbers out a left room after → ReportsForC g numbers out r left room after
reports_for_c e x = record { call = for_c e x.exact; report = x.report }

-- ---- four numbers

pub part_fits : (f : Part) (out : List ℕ) {o : ℕ} → o ≡ order_number f.order → 4 ≤ length out → Exact (newer_result (Found f)) out (Done 4) (set (set (set (set out 0 o) 1 f.file) 2 f.place) 3 f.span)
part_fits f out e h = rw e (exact_wrote _ out h (record { span = refl; is = sets-eq (order_number f.order ∷ f.file ∷ f.place ∷ f.span ∷ []) out 0 h }))

module _ (o : Outcome) (out : List ℕ) where
  pub outcome_found : (f : Part) → o ≡ Found f → {a : Answer} {left : List ℕ} → Exact (newer_result (Found f)) out a left → Exact (newer_result o) out a left
  outcome_found f e x = rw e x

  pub outcome_refused : {file n p : ℕ} → o ≡ RefusedIn file n p → Exact (newer_result o) out (Refused (256 * file + n) p) out
  outcome_refused e = rw e (exact_refuses _ _ out)

  pub outcome_told : {file n p : ℕ} → o ≡ RefusedIn file n p → Told o → (file ≤ 2) × (n ≤ 22)
  outcome_told e t = rw e at t

pub newer_is : {o w : Outcome} {out : List ℕ} {r : ℕ} {a : Answer} {left : List ℕ} → r ≡ packed a → Exact (newer_result o) out a left → o ≡ w → ForC (newer_result w) out r left
newer_is e x h = for_c e (rw h at x)
