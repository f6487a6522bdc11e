-- Plain boxes alone: counted by one walk, which ends at a box of another form. Assumes nothing.
use Prim.Native.Nat.{ℕ, ◌+◌, ◌≤◌, ◌<◌}
use native.Mathlib.Omega.{arith}
use mathlib.Core.Path.{◌≡◌, refl, sym, ap, ◌∙◌}
use mathlib.Core.Bool.{Bool, true, false}
use mathlib.Core.List.{List, [], ◌∷◌}
use lib.ListN.{length, drop, length-drop, drop_of_length-le}
use Rattle.wire.specs.Tests.{pick}
use Rattle.wire.specs.Numbers.{Bytes}
use Rattle.wire.specs.Clauses.{is_eq, every}
use Rattle.wire.proofs.Tests.{both}
use Rattle.wire.proofs.Clauses.{is_eq_lem, not_eq, fails, holds, done}
use Rattle.boxes.specs.declared.walk.Walk.{Walk}
use Rattle.boxes.specs.declared.walk.BoxAt.{BoxAt}
use Rattle.boxes.specs.declared.walk.Step.{Step}
use Rattle.boxes.specs.declared.walk.Step.TheVariants.{Found, End, Broken}
use Rattle.boxes.specs.declared.walk.Form.{Form}
use Rattle.boxes.specs.declared.walk.Form.TheVariants.{Plain, Wide, Open}
use Rattle.boxes.specs.Box.{Box, is_plain}
use Rattle.boxes.specs.Boxes.{boxes, after, tiles}
use Rattle.boxes.specs.Walk.{step_at, plainly, Ran, Over, Stepped}
use Rattle.boxes.specs.Seek.{meant, count, all_plain, plain_tiles, Tallied}
use Rattle.boxes.proofs.Walking.{stepped}
use Rattle.boxes.proofs.Reading.{All}
use Rattle.boxes.proofs.Reading.All.{none, some}
use Rattle.boxes.proofs.Seeking.{passed_none, passed_more, passed_all}

-- ---- each is plain

abbrev pub PlainBox : Box → Type 0
PlainBox x = x.form ≡ Plain

is_plain_lem : (f : Form) → is_plain f ≡ true → f ≡ Plain
is_plain_lem Plain e = refl
is_plain_lem Wide e = let z : ◌≡◌ {A = ℕ} 0 1 = cc in absurd (omega arith)
is_plain_lem Open e = let z : ◌≡◌ {A = ℕ} 0 1 = cc in absurd (omega arith)

pub each_plain : (l : List Box) → all_plain l ≡ true → All PlainBox l
unfolding all_plain
each_plain [] e = none
each_plain (x ∷ l) e = let b = both (is_plain x.form) (all_plain l) e in some {x = x} (is_plain_lem x.form b.0) (each_plain l b.1)

pub plain_each : {l : List Box} → All PlainBox l → all_plain l ≡ true
unfolding all_plain
plain_each none = refl
plain_each (some {x} {l} e a) = rw (e, plain_each a)

-- ---- by one walk

abbrev torn : Step → ℕ
torn (Found b w) = 0
torn End = 0
torn (Broken p) = 1

pub tallied_none : (xs : List ℕ) (c : ℕ) → Tallied xs c 0 0
tallied_none xs c = record { passed = passed_none xs c; plain = refl }

module _ {xs : List ℕ} {c n at : ℕ} (t : Tallied xs c n at) where
  abbrev told : ℕ
  told = pick (plain_tiles xs) (count c (boxes xs)) 0

  module _ {b : BoxAt} {w : Walk} (s : Ran xs at b w) where
    here : all_plain (boxes xs) ≡ pick (is_plain b.form) (all_plain (boxes (drop w.at xs))) false
    unfolding all_plain
    here = t.plain ∙ ap all_plain s.list

    pub tallied_more : Bytes xs → is_plain b.form ≡ true → {m : ℕ} → m ≡ n + meant c b.code → Tallied xs c m w.at
    tallied_more v p e = record { passed = passed_more t.passed v s e; plain = here ∙ rw p }

    pub tallied_not : is_plain b.form ≡ false → 0 ≡ told
    tallied_not p = rw (← fails 1 (tiles xs ∷ all_plain (boxes xs) ∷ []) (here ∙ rw p))

  module _ (o : Over xs at) where
    all_plain_lem : all_plain (boxes xs) ≡ true
    unfolding all_plain
    all_plain_lem = t.plain ∙ rw o.list

    pub tallied_whole : length xs ≤ at → n ≡ told
    tallied_whole h =
        let e : tiles xs ≡ true = is_eq_lem (length (after xs)) 0 (ap length (t.passed.rest ∙ o.rest ∙ drop_of_length-le xs {i = at} h)) in
        rw (← holds (tiles xs) (all_plain (boxes xs) ∷ []) e (holds (all_plain (boxes xs)) [] all_plain_lem done)) (passed_all t.passed o).0

    pub tallied_torn : at < length xs → 0 ≡ told
    tallied_torn h =
        let e : tiles xs ≡ false = not_eq (length (after xs)) 0 (λ z. omega (arith, ap length (t.passed.rest ∙ o.rest), length-drop at xs)) in
        rw (← fails 0 (tiles xs ∷ all_plain (boxes xs) ∷ []) e)

  -- where no plain box is found, there is none or one of another form
  pub tallied_stopped : (s : Step) (p : ℕ) → s ≡ plainly at (step_at xs at) → s ≡ Broken p → 0 ≡ told
  tallied_stopped s p e f = go (step_at xs at) (stepped xs at) (sym f ∙ e)
    where
      by : (u : Bool) (b : BoxAt) (w : Walk) → is_plain b.form ≡ u → Ran xs at b w → Broken p ≡ pick u (Found b w) (Broken at) → 0 ≡ told
      by true b w q r z = let k : ◌≡◌ {A = ℕ} 1 0 = ap torn z in absurd (omega arith)
      by false b w q r z = tallied_not r q

      go : (v : Step) → Stepped xs at v → Broken p ≡ plainly at v → 0 ≡ told
      go (Found b w) r z = by (is_plain b.form) b w refl r z
      go End o z = let k : ◌≡◌ {A = ℕ} 1 0 = ap torn z in absurd (omega arith)
      go (Broken q) o z = tallied_torn o.0 o.2

-- ---- what the count says: plain boxes tile the part, and n of them are meant

module _ (t : Bool) (m n : ℕ) {r : ℕ} (e : r ≡ pick t m 0) where
  pub told_yea : r ≡ n → 1 ≤ n → true ≡ every (t ∷ is_eq m n ∷ [])
  told_yea q h = go t e
    where
      go : (s : Bool) → r ≡ pick s m 0 → true ≡ every (s ∷ is_eq m n ∷ [])
      go true f = holds true _ refl (holds (is_eq m n) [] (is_eq_lem m n (omega arith)) done)
      go false f = absurd (omega arith)

  pub told_nay : (r ≡ n → ⊥) → false ≡ every (t ∷ is_eq m n ∷ [])
  told_nay q = go t e
    where
      go : (s : Bool) → r ≡ pick s m 0 → false ≡ every (s ∷ is_eq m n ∷ [])
      go true f = fails 1 _ (not_eq m n (λ z. q (f ∙ z)))
      go false f = fails 0 _ refl
