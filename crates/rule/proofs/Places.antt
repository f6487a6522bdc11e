-- Laws of verdicts. Assumes nothing.
use Prim.Native.Nat.{ℕ, min}
use native.Mathlib.Omega.{arith}
use mathlib.Core.Path.{◌≡◌, refl, ap}
use mathlib.Core.Bool.{Bool, true, false}
use Rattle.wire.specs.Tests.{pick}
use Rattle.rule.specs.Verdict.{sooner, unless, is_fine, Verdict, Fine, Bad}
use Rattle.rule.specs.Rule.{Rule, placed, Says}

pub fine_is : (v : Verdict) → is_fine v ≡ true → v ≡ Fine
fine_is Fine e = refl
fine_is (Bad p) e = let z : ◌≡◌ {A = ℕ} 0 1 = cc in absurd (omega arith)

-- nothing is broken of two exactly where nothing is of each
pub sooner_fine : (u v : Verdict) → is_fine (sooner u v) ≡ pick (is_fine u) (is_fine v) false
unfolding sooner
sooner_fine Fine v = refl
sooner_fine (Bad p) Fine = refl
sooner_fine (Bad p) (Bad q) = refl

pub sooner_none : (u : Verdict) → sooner u Fine ≡ u
unfolding sooner
sooner_none Fine = refl
sooner_none (Bad p) = refl

pub sooner_then : (u v w : Verdict) → sooner (sooner u v) w ≡ sooner u (sooner v w)
unfolding sooner
sooner_then Fine v w = refl
sooner_then (Bad p) Fine w = refl
sooner_then (Bad p) (Bad q) Fine = refl
sooner_then (Bad p) (Bad q) (Bad r) = ap Bad (omega arith)

pub sooner_turn : (u v : Verdict) → sooner u v ≡ sooner v u
unfolding sooner
sooner_turn Fine Fine = refl
sooner_turn Fine (Bad q) = refl
sooner_turn (Bad p) Fine = refl
sooner_turn (Bad p) (Bad q) = ap Bad (omega arith)

-- as code goes
pub sooner_right : (u v : Verdict) → u ≡ Fine → v ≡ sooner u v
unfolding sooner
sooner_right u v e = rw e

pub sooner_left : (u v : Verdict) {p : ℕ} → u ≡ Bad p → v ≡ Fine → Bad p ≡ sooner u v
unfolding sooner
sooner_left u v e f = rw (e, f)

pub sooner_least : (u v : Verdict) {p q r : ℕ} → u ≡ Bad p → v ≡ Bad q → r ≡ min p q → Bad r ≡ sooner u v
unfolding sooner
sooner_least u v e f h = rw (e, f) (ap Bad h)

-- ---- unless

pub unless_fine : (t : Bool) (p : ℕ) → is_fine (unless t p) ≡ t
unfolding unless
unless_fine true p = refl
unless_fine false p = refl

pub placed_says : (r : Rule) → Says (placed r) r
placed_says r = record { leaf = λ k c b p q. unless_fine _ p; node = λ k xs home p. unless_fine _ home; end = λ xs p. unless_fine _ p }

pub unless_yea : (t : Bool) (p : ℕ) → true ≡ t → Fine ≡ unless t p
unfolding unless
unless_yea t p e = rw (← e)

pub unless_nay : (t : Bool) (p : ℕ) → false ≡ t → Bad p ≡ unless t p
unfolding unless
unless_nay t p e = rw (← e)
