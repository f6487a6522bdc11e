-- How a call keeps its promise, branch by branch of its code; and what is known of a call that is done. Assumes nothing.
use Prim.Native.Nat.{ℕ, ◌+◌, ◌≤◌, ◌<◌}
use native.Mathlib.Omega.{arith}
use mathlib.Core.Path.{◌≡◌, refl, sym, ap, ◌∙◌}
use mathlib.Core.Bool.{Bool, true, false}
use mathlib.Core.List.{List, [], ◌∷◌, ◌++◌, map}
use mathlib.Core.Logic.{⊎_elim}
use lib.ListN.{length, take, drop}
use lib.Seq.{take_at, sets, sets-eq}
use Rattle.wire.specs.Clauses.{every, one_if}
use Rattle.wire.specs.Writing.{Wrote}
use Rattle.wire.proofs.Tests.{lt_yea, lt_nay, lt_ways}
use Rattle.wire.proofs.Clauses.{is_le_lem, not_le, fails, holds, done, was_yea, was_nay}
use Rattle.boxes.specs.Containers.{LONGEST}
use Rattle.rule.specs.Results.{ToWrite, asked, length_fine, in_limit, answer_in, left_in, Exact, told_in, Reports}
use Rattle.rule.specs.Results.ToWrite.{gives, refuses}
use Rattle.rule.specs.Answers.{Answer, Done, Refused}

-- ---- what a call answers

pub exact_refuses : (n p : ℕ) (out : List ℕ) → Exact (refuses n p) out (Refused n p) out
unfolding answer_in left_in
exact_refuses n p out = record { answers = refl; leaves = refl }

pub exact_short : (xs out : List ℕ) → length out < length xs → Exact (gives xs) out (Refused 25 0) out
unfolding answer_in left_in
exact_short xs out h = record { answers = lt_yea _ _ _ _ _ h refl; leaves = lt_yea _ _ _ _ _ h refl }

pub exact_wrote : (xs out : List ℕ) → length xs ≤ length out → {n : ℕ} {left : List ℕ} → Wrote xs out n left → Exact (gives xs) out (Done n) left
unfolding answer_in left_in
exact_wrote xs out h w =
    record { answers = lt_nay _ _ _ _ _ h (ap Done w.span); leaves = lt_nay _ _ _ _ _ h (w.is ∙ ap (λ (m : ℕ). xs ++ drop m out) w.span) }

-- numbers, put into a list one by one
pub exact_puts : (ns out : List ℕ) → length ns ≤ length out → Exact (gives ns) out (Done (length ns)) (sets out 0 ns)
exact_puts ns out h =
    let z : 0 + length ns ≡ length ns = omega arith in
    exact_wrote ns out h (record { span = refl; is = rw z at (sets-eq ns out 0 (omega arith)) })

-- ---- the tests before it, each told by code as 1 or 0

module _ (n : ℕ) (t : Bool) (ts : List (ℕ × Bool)) (g : ToWrite) (out : List ℕ) where
  pub test_not : t ≡ false → Exact (asked ((n, t) ∷ ts) g) out (Refused n 0) out
  unfolding asked
  test_not e = rw e (exact_refuses n 0 out)

  pub test_so : t ≡ true → {r : Answer} {left : List ℕ} → Exact (asked ts g) out r left → Exact (asked ((n, t) ∷ ts) g) out r left
  unfolding asked
  test_so e x = rw e x

  pub test_nay : {i : ℕ} → i ≡ one_if t → i ≡ 0 → Exact (asked ((n, t) ∷ ts) g) out (Refused n 0) out
  test_nay e z = test_not (was_nay t _ z e)

  pub test_yea : {i : ℕ} → i ≡ one_if t → (i ≡ 0 → ⊥) → {r : Answer} {left : List ℕ} → Exact (asked ts g) out r left → Exact (asked ((n, t) ∷ ts) g) out r left
  test_yea e z x = test_so (was_yea t _ z e) x

pub test_all : (g : ToWrite) (out : List ℕ) {r : Answer} {left : List ℕ} → Exact g out r left → Exact (asked [] g) out r left
unfolding asked
test_all g out x = x

-- the first of them may be 1
module _ (xs : List ℕ) where
  pub too_short : length xs < 8 → length_fine xs ≡ false
  too_short h = sym (fails 0 _ (not_le _ _ h))

  pub too_long : LONGEST < length xs → length_fine xs ≡ false
  too_long h = sym (fails 1 _ (not_le _ _ h))

  pub length_fine_lem : 8 ≤ length xs → length xs ≤ LONGEST → length_fine xs ≡ true
  length_fine_lem g l = sym (holds _ _ (is_le_lem _ _ g) (holds _ _ (is_le_lem _ _ l) done))

-- the last of them may be 24
module _ (xs out : List ℕ) where
  pub over_limit : LONGEST < length xs → Exact (asked ((24, in_limit xs) ∷ []) (gives xs)) out (Refused 24 0) out
  over_limit h = test_not 24 _ [] _ out (not_le _ _ h)

  pub in_limit_lem : length xs ≤ LONGEST → {r : Answer} {left : List ℕ} → Exact (gives xs) out r left → Exact (asked ((24, in_limit xs) ∷ []) (gives xs)) out r left
  in_limit_lem h x = test_so 24 _ [] _ out (is_le_lem _ _ h) (test_all _ out x)

-- ---- a call that reports

module _ {g : ToWrite} {numbers out : List ℕ} (room : List ℕ) where
  pub reports_refused : {n p : ℕ} → Exact g out (Refused n p) out → Reports g numbers out (Refused n p) out room room
  unfolding told_in
  reports_refused x = record { exact = x; report = rw (← x.answers) }

  pub reports_done : {n m : ℕ} {left after : List ℕ} → Exact g out (Done n) left → Wrote numbers room m after → Reports g numbers out (Done n) left room after
  unfolding told_in
  reports_done x w = record { exact = x; report = rw (← x.answers) (w.is ∙ ap (λ (i : ℕ). numbers ++ drop i room) w.span) }

-- ---- two results that the promise allows are equal

pub one_answer : (g : ToWrite) (out : List ℕ) {r s : Answer} {a b : List ℕ} → Exact g out r a → Exact g out s b → (r ≡ s) × (a ≡ b)
one_answer g out x y = (x.answers ∙ sym y.answers, x.leaves ∙ sym y.leaves)

pub one_report : {g : ToWrite} {numbers out room : List ℕ} {r s : Answer} {a b u v : List ℕ} → Reports g numbers out r a room u
    → Reports g numbers out s b room v → (r ≡ s) × (a ≡ b) × (u ≡ v)
one_report {g} {out = out} x y = let e = one_answer g out x.exact y.exact in (e.0, e.1, x.report ∙ sym y.report)

-- ---- a call that is done

pub refused_not : (k p n : ℕ) → Refused k p ≡ Done n → ⊥
refused_not k p n e = let z : ◌≡◌ {A = ℕ} 0 1 = cc in omega arith

-- what it was to give stands at the front, as many numbers as it answers
pub record Gave (xs out : List ℕ) (n : ℕ) : Type 0 where
  pub span : n ≡ length xs
  pub taken : take n (left_in (gives xs) out) ≡ xs

pub gives_done : (xs out : List ℕ) (n : ℕ) → answer_in (gives xs) out ≡ Done n → Gave xs out n
unfolding answer_in left_in
gives_done xs out n e = ⊎_elim (λ w. absurd (refused_not 25 0 n w.1)) (λ w. fits w.0 w.1) (lt_ways _ _ _ _ _ e)
  where
    fits : length xs ≤ length out → Done (length xs) ≡ Done n → Gave xs out n
    fits h q =
        let l : n ≡ length xs = cc in
        let f : left_in (gives xs) out ≡ xs ++ drop (length xs) out = sym (lt_nay _ _ _ _ _ h refl) in
        record { span = l; taken = rw f (take_at xs (drop (length xs) out) n (sym l)) }

-- and every test held
pub asked_done : (ts : List (ℕ × Bool)) (xs out : List ℕ) (n : ℕ) → answer_in (asked ts (gives xs)) out ≡ Done n → (every (map (λ t. t.1) ts) ≡ true) × (asked ts (gives xs) ≡ gives xs)
unfolding asked every answer_in
asked_done [] xs out n e = (refl, refl)
asked_done ((k, true) ∷ ts) xs out n e = asked_done ts xs out n e
asked_done ((k, false) ∷ ts) xs out n e = absurd (refused_not k 0 n e)

-- so that what it was to give stands at the front of the room
pub asked_gave : (ts : List (ℕ × Bool)) (xs out : List ℕ) (n : ℕ) → answer_in (asked ts (gives xs)) out ≡ Done n
    → (every (map (λ t. t.1) ts) ≡ true) × (take n (left_in (asked ts (gives xs)) out) ≡ xs)
asked_gave ts xs out n e =
    let d = asked_done ts xs out n e in
    (d.0, ap (λ (r : ToWrite). take n (left_in r out)) d.1 ∙ (gives_done xs out n (rw d.1 at e)).taken)
