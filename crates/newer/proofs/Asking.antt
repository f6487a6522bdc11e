-- An entry of a file by its number. Assumes nothing.
use Rattle.std.specs.Prelude.{Option, Some, None}
use Prim.Native.Nat.{ℕ, zero, suc, ◌-◌, ◌≤◌}
use native.Mathlib.Omega.{arith}
use mathlib.Core.Path.{◌≡◌, refl, sym, ◌∙◌}
use mathlib.Core.List.{List, [], ◌∷◌}
use lib.ListN.{length, take, drop, length-take, length-drop, drop_of_length-le}
use Rattle.codes.specs.Codes.{MOOV, MVHD}
use Rattle.wire.specs.Numbers.{word}
use Rattle.wire.proofs.Tests.{eq_yea, eq_nay}
use Rattle.boxes.specs.Boxes.{boxes}
use Rattle.boxes.specs.Seek.{find}
use Rattle.clocks.specs.declared.Order.{Order}
use Rattle.movie.specs.declared.entry.EntryAt.{EntryAt}
use Rattle.movie.specs.Entries.{Entry, entries}
use Rattle.movie.specs.Named.{NamedAs, EntryIs}
use Rattle.newer.specs.Newer.{modified, among, entry_in, Found, RefusedIn}

pub modified_is : (xs : List ℕ) {moov mvhd : List ℕ} {r : ℕ} → moov ≡ find MOOV (boxes xs) → mvhd ≡ find MVHD (boxes moov) → r ≡ word 4 mvhd 8 → r ≡ modified xs
unfolding modified
modified_is xs e f g = rw (g, f, e)

module _ (o : Order) (f : ℕ) where
  -- past the first i
  among_drop : (i : ℕ) (es : List Entry) → among o f i es ≡ among o f 0 (drop i es)
  unfolding among
  among_drop zero es = refl
  among_drop (suc i) [] = refl
  among_drop (suc i) (e ∷ es) = among_drop i es

  module _ (xs : List ℕ) (i : ℕ) where
    pub entry_none : i ≡ 0 → RefusedIn 0 20 0 ≡ entry_in o f xs i
    unfolding entry_in
    entry_none h = eq_yea _ _ _ _ _ h refl

    module _ (n : i ≡ 0 → ⊥) {j : ℕ} (e : j ≡ i - 1) {w : Option EntryAt} (a : NamedAs xs j w) where
      pub entry_missing : w ≡ None → RefusedIn 0 20 0 ≡ entry_in o f xs i
      unfolding entry_in NamedAs among
      entry_missing h =
          let l : length (entries xs) ≤ j = rw h at a in
          eq_nay _ _ _ _ _ n (sym (rw (← e) (among_drop j (entries xs) ∙ rw (drop_of_length-le (entries xs) {i = j} l))))

      pub entry_found : (v : EntryAt) → w ≡ Some v → Found (record { order = o; file = f; place = v.place; span = v.span }) ≡ entry_in o f xs i
      unfolding entry_in NamedAs among
      entry_found v h =
          let s : EntryIs xs j v = rw h at a in
          let l : length (take v.span (drop v.place xs)) ≡ v.span = omega (arith, length-take v.span (drop v.place xs), length-drop v.place xs, s.inside) in
          eq_nay _ _ _ _ _ n (sym (rw (← e) (among_drop j (entries xs) ∙ rw (s.is, l))))
