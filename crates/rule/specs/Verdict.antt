-- The verdict of one rule: it holds, or it is broken at a place.
use Rattle.std.specs.Prelude.{ℕ, min, Bool, true, false, Result, Ok, Err}
use Rattle.wire.specs.Tests.{pick}

abbrev pub Verdict : Type 0
Verdict = Result (Unit {0}) ℕ

pattern abbrev pub Fine : Verdict
Fine = Ok tt

pattern abbrev pub Bad : ℕ → Verdict
Bad p = Err p

-- "the first box in file order which breaks it": the lower of two places
unfoldable pub sooner : Verdict → Verdict → Verdict
sooner Fine v = v
sooner (Bad p) Fine = Bad p
sooner (Bad p) (Bad q) = Bad (min p q)

-- broken at p unless a test holds
unfoldable pub unless : Bool → ℕ → Verdict
unless t p = pick t Fine (Bad p)

abbrev pub is_fine : Verdict → Bool
is_fine Fine = true
is_fine (Bad p) = false
