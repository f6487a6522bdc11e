-- What the answer says, sample by sample: the one it names fails for that reason, each one before it passes, and where it names none all
-- pass. Assumes nothing.
use Prim.Native.Nat.{ℕ, zero, suc, ◌+◌, ◌-◌, ◌≤◌, ◌<◌}
use native.Mathlib.Omega.{arith}
use mathlib.Core.Path.{◌≡◌, refl, sym, ap, ◌∙◌}
use mathlib.Core.List.{List, [], ◌∷◌}
use lib.ListN.{length, drop}
use lib.Seq.{drop-nil}
use Rattle.sample_walk.specs.declared.walk.Sample.{Sample}
use Rattle.std.specs.declared.option.Option.{Option}
use Rattle.std.specs.declared.option.Option.TheVariants.{Some, None}
use Rattle.modes.specs.declared.Failing.{Failing}
use Rattle.modes.specs.Track.{failing_from}

module _ {R : Type 0} (f : Sample → ℕ → Option R) where
  -- sample i, from 0, fails for the reason w, or passes where there is none
  abbrev pub WhyAt : List Sample → ℕ → Option R → Type 0
  WhyAt l i w = (s : Sample) → drop i l ≡ s ∷ drop (suc i) l → f s (length (drop (suc i) l)) ≡ w

  passes : (n : ℕ) (s : Sample) (l : List Sample) → f s (length l) ≡ None → failing_from f n (s ∷ l) ≡ failing_from f (n + 1) l
  unfolding failing_from
  passes n s l z = rw z

  fails : (n : ℕ) (s : Sample) (l : List Sample) {w : R} → f s (length l) ≡ Some w → failing_from f n (s ∷ l) ≡ Some (record { number = n; why = w })
  unfolding failing_from
  fails n s l z = rw z

  none_there : (i : ℕ) (w : Option R) → WhyAt [] i w
  none_there i w s d = absurd (omega (arith, ap length (sym d ∙ drop-nil i)))

  head_is : (x : Sample) (l : List Sample) {w : Option R} → f x (length l) ≡ w → WhyAt (x ∷ l) 0 w
  head_is x l e s d = let q : x ≡ s = cc in rw (← q) e

  -- where none is named, each passes
  pub all_pass : (n : ℕ) (l : List Sample) → failing_from f n l ≡ None → (i : ℕ) → WhyAt l i None
  all_pass n [] e i = none_there i None
  all_pass n (x ∷ l) e i = by (λ z. all_pass (n + 1) l (rw (passes n x l z) at e)) (f x (length l)) refl
    where
      go : f x (length l) ≡ None → (i : ℕ) → ((i : ℕ) → WhyAt l i None) → WhyAt (x ∷ l) i None
      go z zero ih = head_is x l z
      go z (suc i) ih = ih i

      by : (f x (length l) ≡ None → (i : ℕ) → WhyAt l i None) → (o : Option R) → f x (length l) ≡ o → WhyAt (x ∷ l) i None
      by ih None z = go z i (ih z)
      by ih (Some w) z = let q = sym (fails n x l z) ∙ e in absurd (let o : ◌≡◌ {A = ℕ} 0 1 = cc in omega arith)

  -- and where each passes, none is named
  pub pass_all : (n : ℕ) (l : List Sample) → ((i : ℕ) → WhyAt l i None) → failing_from f n l ≡ None
  unfolding failing_from
  pass_all n [] h = refl
  pass_all n (x ∷ l) h = rw (passes n x l (h 0 x refl)) (pass_all (n + 1) l (λ i. h (suc i)))

  -- the one that is named, counted from n, and those before it
  pub record Named (n : ℕ) (l : List Sample) (r : Failing R) : Type 0 where
    pub from : n ≤ r.number
    pub why : WhyAt l (r.number - n) (Some r.why)
    pub before : (i : ℕ) → n + i < r.number → WhyAt l i None

  here : (n : ℕ) (x : Sample) (l : List Sample) {w : R} → f x (length l) ≡ Some w → Named n (x ∷ l) (record { number = n; why = w })
  here n x l z =
      let e : n - n ≡ 0 = omega arith in
      record { from = omega arith; why = rw e (head_is x l z); before = λ i h. absurd (omega arith) }

  later : (n : ℕ) (x : Sample) (l : List Sample) {r : Failing R} → f x (length l) ≡ None → Named (n + 1) l r → Named n (x ∷ l) r
  later n x l {r} p m =
      let e : r.number - n ≡ suc (r.number - (n + 1)) = omega (arith, m.from) in
      record { from = omega (arith, m.from); why = rw e m.why; before = below }
    where
      below : (i : ℕ) → n + i < r.number → WhyAt (x ∷ l) i None
      below zero h = head_is x l p
      below (suc i) h = m.before i (omega arith)

  pub first_fails : (n : ℕ) (l : List Sample) {r : Failing R} → failing_from f n l ≡ Some r → Named n l r
  first_fails n [] e = let q = sym (pass_all n [] (λ i. none_there i None)) ∙ e in absurd (let o : ◌≡◌ {A = ℕ} 0 1 = cc in omega arith)
  first_fails n (x ∷ l) {r} e = by (λ z. first_fails (n + 1) l (rw (passes n x l z) at e)) (f x (length l)) refl
    where
      by : (f x (length l) ≡ None → Named (n + 1) l r) → (o : Option R) → f x (length l) ≡ o → Named n (x ∷ l) r
      by ih None z = later n x l z (ih z)
      by ih (Some w) z =
          let h = sym (fails n x l z) ∙ e in
          let q : ◌≡◌ {A = Failing R} (record { number = n; why = w }) r = cc in rw (← q) (here n x l z)
