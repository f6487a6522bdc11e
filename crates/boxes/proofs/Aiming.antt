-- Laws of targets: the one for a kind of container, and what three do to a box. Assumes nothing.
use Prim.Native.Nat.{ℕ}
use mathlib.Core.Path.{◌≡◌, refl, sym, ◌∙◌}
use mathlib.Core.List.{List}
use lib.ListN.{length}
use Rattle.wire.specs.Tests.{if_eq}
use Rattle.wire.proofs.Tests.{eq_yea, eq_nay, eq_or}
use Rattle.boxes.specs.declared.words.Target.{Target}
use Rattle.boxes.specs.declared.words.Targets.{Targets}
use Rattle.boxes.specs.Words.{reword_leaf, target_in, reword_each}
use Rattle.boxes.proofs.Wording.{leaf_kind, leaf_length}

module _ (ts : Targets) (f : ℕ → ℕ) (k c : ℕ) (b : List ℕ) where
  -- by the target of the container
  pub each_by : {t : Target} {ys : List ℕ} → t ≡ target_in ts k → ys ≡ reword_leaf t f k c b → ys ≡ reword_each ts f k c b
  unfolding reword_each
  each_by e q = q ∙ rw e

  -- none is for it
  pub each_none : (k ≡ ts.one.kind → ⊥) → (k ≡ ts.two.kind → ⊥) → (k ≡ ts.three.kind → ⊥) → reword_each ts f k c b ≡ b
  unfolding reword_each target_in
  each_none p q r =
      let e : ts.three ≡ if_eq k ts.one.kind ts.one (if_eq k ts.two.kind ts.two ts.three) = eq_nay _ _ _ _ _ p (eq_nay _ _ _ _ _ q refl) in
      rw (← e) (sym (leaf_kind ts.three f k c b r))

  pub each_length : length (reword_each ts f k c b) ≡ length b
  unfolding reword_each
  each_length = leaf_length (target_in ts k) f k c b

-- one alone
abbrev pub alone : Target → Targets
alone t = record { one = t; two = t; three = t }

alone_in : (t : Target) (k : ℕ) → t ≡ target_in (alone t) k
unfolding target_in
alone_in t k = eq_or k t.kind (λ e. eq_yea _ _ _ _ _ e refl) (λ e. eq_nay _ _ _ _ _ e (eq_nay _ _ _ _ _ e refl))

pub each_alone : (t : Target) (f : ℕ → ℕ) → reword_each (alone t) f ≡ reword_leaf t f
unfolding reword_each
each_alone t f = λ i k c b. reword_leaf (sym (alone_in t k) i) f k c b
