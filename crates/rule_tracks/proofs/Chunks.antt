-- What the answers of rule 8 say. Assumes nothing.
use Prim.Native.Nat.{ℕ, ◌+◌}
use mathlib.Core.Path.{◌≡◌, refl, sym, ap, ◌∙◌}
use mathlib.Core.Bool.{Bool, true, false}
use mathlib.Core.List.{List}
use Rattle.codes.specs.Codes.{STBL, STSC, STSZ, STCO}
use Rattle.wire.proofs.Tests.{eq_yea, eq_nay}
use Rattle.boxes.specs.Box.{Box}
use Rattle.boxes.specs.Boxes.{boxes}
use Rattle.boxes.specs.Seek.{find, place_in}
use Rattle.sample_tables.proofs.Rules.{seven_is}
use Rattle.mdat.specs.Rules.{chunks_lie, Ready}
use Rattle.rule.proofs.Places.{unless_yea, unless_nay}
use Rattle.rule_tracks.specs.Seven.{seven_holds}
use Rattle.rule_tracks.specs.Eight.{eight_holds}
use Rattle.rule_tracks.specs.Asked.{six_holds, seven_asked, eight_asked, eight_asked_at}
use Rattle.rule_tracks.proofs.Answers.{six_is}
use Rattle.rule.specs.Verdict.{Fine, Bad}

module _ (m : List Box) (s : six_holds m ≡ true) where
  asked_is : seven_asked m ≡ seven_holds m
  unfolding seven_asked
  asked_is = rw s

  -- rules 6 and 7 give what the walk over the chunks asks
  pub ready : seven_asked m ≡ true → Ready (find STSC m) (find STSZ m) (find STCO m)
  unfolding seven_holds
  ready e =
      let six = six_is m s in
      let t = seven_is _ _ _ _ _ six (sym asked_is ∙ e) in
      record { walk = t.walk; sizes = six.sizes; few = t.few; total = t.total }

module _ (l m : List Box) where
  pub eight_open : {r : Bool} → six_holds m ≡ true → seven_asked m ≡ true
      → r ≡ chunks_lie l (find STSC m) (find STSZ m) (find STCO m) → r ≡ eight_asked l m
  unfolding eight_asked eight_holds
  eight_open s e q = rw (s, sym (asked_is m s) ∙ e) q

  pub eight_six : six_holds m ≡ false → true ≡ eight_asked l m
  unfolding eight_asked
  eight_six s = rw s

  pub eight_seven : six_holds m ≡ true → seven_asked m ≡ false → true ≡ eight_asked l m
  unfolding eight_asked
  eight_seven s e = rw (s, sym (asked_is m s) ∙ e)

module _ (l : List Box) (k : ℕ) (xs : List ℕ) (p : ℕ) where
  pub at_bad : {r : Bool} {q : ℕ} → k ≡ STBL → r ≡ eight_asked l (boxes xs) → r ≡ false → q ≡ place_in STCO 0 (boxes xs) → Bad (p + q) ≡ eight_asked_at l k xs p
  unfolding eight_asked_at
  at_bad {r} h e z q = eq_yea _ _ _ _ _ h (ap (λ (n : ℕ). Bad (p + n)) q ∙ unless_nay _ _ (sym z ∙ e))

  pub at_fine : {r : Bool} → k ≡ STBL → r ≡ eight_asked l (boxes xs) → r ≡ true → Fine ≡ eight_asked_at l k xs p
  unfolding eight_asked_at
  at_fine {r} h e z = eq_yea _ _ _ _ _ h (unless_yea _ _ (sym z ∙ e))

  pub at_other : (k ≡ STBL → ⊥) → Fine ≡ eight_asked_at l k xs p
  unfolding eight_asked_at
  at_other h = eq_nay _ _ _ _ _ h refl
