-- What the answer says at each step. Assumes nothing.
use Prim.Native.Nat.{ℕ}
use mathlib.Core.Path.{◌≡◌, ◌∙◌}
use mathlib.Core.Bool.{true, false}
use mathlib.Core.List.{List, [], ◌∷◌}
use lib.IntN.{ℤ}
use Rattle.wire.specs.Clauses.{every}
use Rattle.wire.proofs.Clauses.{fails, holds, done}
use Rattle.clocks.specs.declared.Zone.{Zone}
use Rattle.std.specs.declared.option.Option.{Option}
use Rattle.std.specs.declared.option.Option.TheVariants.{Some, None}
use Rattle.clocks.specs.declared.Order.{Order}
use Rattle.clocks.specs.declared.Order.TheVariants.{Earlier, Same, Later}
use Rattle.clocks.specs.Clocks as clocks
use Rattle.clocks.specs.Clocks.{zone_fine}
use Rattle.clocks.specs.Zones.{compared}
use Rattle.clocks.proofs.Signed.{zone_found, zone_missing}
use Rattle.clocks.proofs.Whole.{compared_is}
use Rattle.judge.specs.Judgement.{judged, Judgement, Accepted}
use Rattle.judge.specs.Calls.{when_accepted}
use Rattle.newer.specs.Newer.{modified, order_of, entry_in, entry_of, in_zones, newest_of, Outcome, RefusedIn}
use Rattle.rule.specs.Answers.{Refused}

-- the order that was found is that of the modification times, and the entry is looked up in the later file
module _ (xs ys : List ℕ) (i : ℕ) (y z : Zone) {m n : ℕ} {o : Order} (e : m ≡ modified xs) (f : n ≡ modified ys) (g : o ≡ compared m y n z) where
  found : o ≡ compared (modified xs) y (modified ys) z
  found = rw (← e, ← f) g

  pub order_earlier : {r : Outcome} → o ≡ Earlier → r ≡ entry_in o 2 ys i → r ≡ entry_of (compared (modified xs) y (modified ys) z) xs ys i
  order_earlier h q = rw (← found, h) (rw h at q)

  pub order_same : {r : Outcome} → o ≡ Same → r ≡ entry_in o 1 xs i → r ≡ entry_of (compared (modified xs) y (modified ys) z) xs ys i
  order_same h q = rw (← found, h) (rw h at q)

  pub order_later : {r : Outcome} → o ≡ Later → r ≡ entry_in o 1 xs i → r ≡ entry_of (compared (modified xs) y (modified ys) z) xs ys i
  order_later h q = rw (← found, h) (rw h at q)

module _ (xs : List ℕ) (y : ℤ) (ys : List ℕ) (z : ℤ) (i : ℕ) where
  pub zone_first : {w : Option Zone} → w ≡ clocks.zoned_of y → w ≡ None → RefusedIn 0 22 0 ≡ in_zones xs y ys z i
  unfolding in_zones
  zone_first e h = let q : false ≡ every (zone_fine y ∷ zone_fine z ∷ []) = fails 0 _ (zone_missing y e h) in rw (← q)

  pub zone_second : {w : Option Zone} → w ≡ clocks.zoned_of z → w ≡ None → RefusedIn 0 22 0 ≡ in_zones xs y ys z i
  unfolding in_zones
  zone_second e h = let q : false ≡ every (zone_fine y ∷ zone_fine z ∷ []) = fails 1 _ (zone_missing z e h) in rw (← q)

  pub zone_both : {v w : Option Zone} {a b : Zone} {r : Outcome} → v ≡ clocks.zoned_of y → v ≡ Some a → w ≡ clocks.zoned_of z → w ≡ Some b
      → r ≡ entry_of (compared (modified xs) a (modified ys) b) xs ys i → r ≡ in_zones xs y ys z i
  unfolding in_zones order_of
  zone_both {a = a} {b = b} e h f k q =
      let s = zone_found y e a h in
      let t = zone_found z f b k in
      let c : true ≡ every (zone_fine y ∷ zone_fine z ∷ []) = holds _ _ s.0 (holds _ _ t.0 done) in
      q ∙ rw (← c, s.1, t.1, compared_is (modified xs) y (modified ys) z)

  module _ {j : Judgement} (e : j ≡ judged xs) where
    pub file_first : {n p : ℕ} → j ≡ Refused n p → RefusedIn 1 n p ≡ newest_of xs y ys z i
    unfolding newest_of when_accepted
    file_first h = rw (← e, h)

    module _ (g : j ≡ Accepted) {k : Judgement} (f : k ≡ judged ys) where
      pub file_second : {n p : ℕ} → k ≡ Refused n p → RefusedIn 2 n p ≡ newest_of xs y ys z i
      unfolding newest_of when_accepted
      file_second h = rw (← e, g, ← f, h)

      pub file_both : k ≡ Accepted → {r : Outcome} → r ≡ in_zones xs y ys z i → r ≡ newest_of xs y ys z i
      unfolding newest_of when_accepted
      file_both h q = rw (← e, g, ← f, h) q
