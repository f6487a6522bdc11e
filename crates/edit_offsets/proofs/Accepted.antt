-- What the rules say of the boxes of an accepted file itself. Assumes nothing.
use Prim.Native.Nat.{ℕ}
use mathlib.Core.Path.{◌≡◌, refl, sym, ap, ◌∙◌}
use mathlib.Core.Bool.{true}
use mathlib.Core.List.{List, [], ◌∷◌}
use Rattle.wire.specs.Tests.{if_eq}
use Rattle.codes.specs.Codes.{FTYP, MOOV}
use Rattle.wire.proofs.Lists.{nil_is}
use Rattle.wire.proofs.Clauses.{eq_is}
use Rattle.boxes.specs.Box.{Box}
use Rattle.boxes.specs.Boxes.{boxes, after}
use Rattle.boxes.specs.Containers.{FILE}
use Rattle.boxes.specs.Seek.{count}
use Rattle.rule.proofs.Opened.{opened}
use Rattle.rule_shape.specs.Three.{needed, first, shape, three_rule}
use Rattle.rule_shape.specs.Two.{two_rule}
use Rattle.rule_shape.proofs.Needs.{shape_one, shape_first}
use Rattle.judge.specs.Acceptance.{Meets}

module _ (xs : List ℕ) (m : Meets xs) where
  -- rule 2: they tile it
  pub file_tiled : after xs ≡ []
  file_tiled = nil_is (after xs) (eq_is _ _ (opened two_rule 5 FILE xs m.two).end)

  -- rule 3
  file_shape : shape FILE (boxes xs) ≡ true
  file_shape = (opened three_rule 5 FILE xs m.three).node

  pub one_moov : count MOOV (boxes xs) ≡ 1
  unfolding needed if_eq
  one_moov = shape_one (boxes xs) FILE MOOV file_shape refl

  pub ftyp_first : (x : Box) (l : List Box) → boxes xs ≡ x ∷ l → x.code ≡ FTYP
  unfolding first
  ftyp_first x l e = sym (ap first e) ∙ shape_first (boxes xs) file_shape
