-- A verdict as one number: what 0 says, and what another number does. Assumes nothing.
use Prim.Native.Nat.{ℕ, ◌-◌}
use native.Mathlib.Omega.{arith}
use mathlib.Core.Path.{◌≡◌, refl, ap, ◌∙◌}
use Rattle.judge.specs.Asked.{as_number}
use Rattle.rule.specs.Verdict.{Verdict, Fine, Bad}

pub number_as : {r : ℕ} {u v : Verdict} → r ≡ as_number u → u ≡ v → r ≡ as_number v
number_as e q = e ∙ ap as_number q

pub number_fine : (v : Verdict) {r : ℕ} → r ≡ as_number v → r ≡ 0 → Fine ≡ v
number_fine Fine e z = refl
number_fine (Bad p) e z = absurd (omega arith)

pub number_bad : (v : Verdict) {r : ℕ} → r ≡ as_number v → (r ≡ 0 → ⊥) → Bad (r - 1) ≡ v
number_bad Fine e n = absurd (n e)
number_bad (Bad p) e n = ap Bad (omega arith)

-- a fault that is that of the whole
pub number_whole : (v : Verdict) {r : ℕ} {whole : Verdict} → r ≡ as_number v → (r ≡ 0 → ⊥) → ((p : ℕ) → v ≡ Bad p → Bad p ≡ whole) → r ≡ as_number whole
number_whole Fine e n f = absurd (n e)
number_whole (Bad p) e n f = e ∙ ap as_number (f p refl)
