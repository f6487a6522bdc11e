-- What a part holds that has no fixed bytes. Assumes nothing.
use Prim.Native.Nat.{ℕ}
use mathlib.Core.Path.{◌≡◌, refl, sym, ◌∙◌}
use mathlib.Core.List.{List, []}
use Rattle.wire.proofs.Tests.{eq_yea}
use Rattle.descriptors.specs.Parts.{fixed_of, held_of}

pub held_none : (j : ℕ) (xs : List ℕ) {n : ℕ} → n ≡ fixed_of j → n ≡ 0 → [] ≡ held_of j xs
unfolding held_of
held_none j xs e z = eq_yea _ _ _ _ _ (sym e ∙ z) refl
