-- The refusals of the newer of two have small numbers. Assumes nothing.
use Rattle.std.specs.Prelude.{Err}
use Prim.Native.Nat.{ℕ, zero, suc, ◌-◌, ◌≤◌}
use native.Mathlib.Omega.{arith}
use mathlib.Core.Bool.{Bool, true, false}
use mathlib.Core.List.{List, [], ◌∷◌}
use lib.IntN.{ℤ}
use Rattle.wire.specs.Tests.{pick}
use Rattle.wire.specs.Clauses.{every}
use Rattle.wire.proofs.Tests.{eq_any}
use Rattle.clocks.specs.declared.Order.{Order}
use Rattle.clocks.specs.declared.Order.TheVariants.{Earlier, Same, Later}
use Rattle.clocks.specs.Clocks.{zone_fine}
use Rattle.movie.specs.Entries.{Entry, entries}
use Rattle.judge.specs.Judgement.{judged_number, judged, Judgement, Accepted}
use Rattle.judge.specs.Calls.{when_accepted}
use Rattle.judge.proofs.Places.{number_most}
use Rattle.newer.specs.Newer.{order_of, among, entry_in, entry_of, in_zones, newest_of, Outcome, RefusedIn}
use Rattle.threegp.specs.Answers.{Told}

among_told : (o : Order) (file i : ℕ) (es : List Entry) → Told (among o file i es)
unfolding among
among_told o file i [] = (omega arith, omega arith)
among_told o file zero (e ∷ es) = tt
among_told o file (suc i) (e ∷ es) = among_told o file i es

entry_told : (o : Order) (file : ℕ) (xs : List ℕ) (i : ℕ) → Told (entry_in o file xs i)
unfolding entry_in
entry_told o file xs i = eq_any Told i 0 _ _ (omega arith, omega arith) (among_told o file (i - 1) (entries xs))

order_told : (o : Order) (xs ys : List ℕ) (i : ℕ) → Told (entry_of o xs ys i)
order_told Earlier xs ys i = entry_told Earlier 2 ys i
order_told Same xs ys i = entry_told Same 1 xs i
order_told Later xs ys i = entry_told Later 1 xs i

pick_told : (t : Bool) (a b : Outcome) → Told a → Told b → Told (pick t a b)
pick_told true a b p q = p
pick_told false a b p q = q

when_told : (file : ℕ) → file ≤ 2 → (j : Judgement) → judged_number j ≤ 10 → (o : Outcome) → Told o → Told (when_accepted (RefusedIn file) j o)
unfolding when_accepted
when_told file h Accepted k o p = p
when_told file h (Err e) k o p = (h, omega arith)

pub newest_told : (xs : List ℕ) (y : ℤ) (ys : List ℕ) (z : ℤ) (i : ℕ) → Told (newest_of xs y ys z i)
unfolding newest_of in_zones
newest_told xs y ys z i =
    when_told 1 (omega arith) (judged xs) (number_most xs) _
    (when_told 2 (omega arith) (judged ys) (number_most ys) _
    (pick_told (every (zone_fine y ∷ zone_fine z ∷ [])) _ _ (order_told (order_of xs y ys z) xs ys i) (omega arith, omega arith)))
