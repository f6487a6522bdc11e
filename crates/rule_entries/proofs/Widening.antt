-- Entries that meet rule 10 of a release meet that of any wider one. Assumes nothing.
use Prim.Native.Nat.{ℕ, ◌≤◌}
use mathlib.Core.Path.{◌≡◌, refl}
use mathlib.Core.Bool.{true}
use mathlib.Core.List.{List, [], ◌∷◌, ◌++◌}
use Rattle.wire.proofs.Tests.{both}
use Rattle.boxes.specs.Box.{Box, header}
use Rattle.boxes.specs.Boxes.{boxes}
use Rattle.release.specs.declared.Release.{Release}
use Rattle.release.specs.Releases.{most_frames}
use Rattle.std.specs.Prelude.{Option}
use Rattle.entry_rules.specs.declared.entry.Around.{Around}
use Rattle.entry_rules.proofs.Widening.{entry_wider}
use Rattle.rule.specs.Rule.{all_list}
use Rattle.rule_entries.specs.Ten.{entry_fine, entries_fine}

module _ (release wider : Release) (more : most_frames release ≤ most_frames wider) (a : Option Around) where
  all_wider : (l : List Box) → all_list (entry_fine a release) true l ≡ true → all_list (entry_fine a wider) true l ≡ true
  unfolding all_list
  all_wider [] q = refl
  all_wider (x ∷ l) q =
      let b = both (entry_fine a release x) (all_list (entry_fine a release) true l) q in
      rw (entry_wider release wider more a (header x ++ x.body) b.0) (all_wider l b.1)

  pub entries_wider : (xs : List ℕ) → entries_fine a release xs ≡ true → entries_fine a wider xs ≡ true
  unfolding entries_fine
  entries_wider xs q = all_wider (boxes xs) q
