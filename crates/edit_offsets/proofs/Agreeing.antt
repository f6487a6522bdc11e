-- Two edits that agree wherever a rule holds are one edit of what meets it. Assumes nothing.
use Prim.Native.Nat.{ℕ, zero, suc}
use mathlib.Core.Path.{◌≡◌, refl, sym, ap}
use mathlib.Core.Bool.{true}
use mathlib.Core.List.{List, ◌++◌, map}
use Rattle.wire.proofs.Tests.{eq_or}
use Rattle.boxes.specs.Box.{Box, write}
use Rattle.boxes.specs.Boxes.{after}
use Rattle.boxes.specs.Containers.{kind_in}
use Rattle.boxes.specs.Rewrite.{Bodies, Leaves, over, over_boxes, edit_in}
use Rattle.boxes.proofs.Reading.{All}
use Rattle.boxes.proofs.Reading.All.{none, some}
use Rattle.boxes.proofs.Every.{all_with}
use Rattle.boxes.proofs.Editing.{edit_leaf, edit_node}
use Rattle.rule.specs.Rule.{Rule, all_in}
use Rattle.rule.proofs.Opened.{opened}

map_agree : (f g : Bodies) {l : List Box} → All (λ x. f x.code x.body ≡ g x.code x.body) l → map (over f) l ≡ map (over g) l
map_agree f g none = refl
map_agree f g (some e a) = rw (e, map_agree f g a)

module _ (r : Rule) (f g : Leaves) (leaf : (k c : ℕ) (b : List ℕ) → r.leaf k c b ≡ true → f k c b ≡ g k c b) where
  pub edit_agree : (d k : ℕ) (xs : List ℕ) → all_in r d k xs ≡ true → edit_in f d k xs ≡ edit_in g d k xs
  unfolding edit_in over_boxes
  edit_agree zero k xs q = refl
  edit_agree (suc d) k xs q =
      let o = opened r d k xs q in
      ap (λ (l : List Box). write l ++ after xs)
      (map_agree _ _ (all_with (λ x p n. eq_or (kind_in k x.code) 0
      (λ z. edit_leaf g _ k _ _ refl z (sym (edit_leaf f _ k _ _ refl z (sym (leaf k x.code x.body (p z))))))
      (λ z. edit_node g _ k _ _ refl z (sym (edit_node f _ k _ _ refl z (sym (edit_agree d (kind_in k x.code) x.body (n z)))))))
      o.leaves o.inside))
