-- Another kind, or its descriptors.
use native.Mathlib.Omega.{arith}
use Rattle.esds.proofs.Reading.{head_most, other_kind, this_kind}
use Rattle.esds.proofs.open_entry.Goals as goal

pub returns-then-not-has_esds : goal.returns-then-not-has_esds
returns-then-not-has_esds c =
    other_kind _ _ c.word32.ensures.0 c.of_code-kind.ensures c.has_esds.ensures c.if-not-has_esds.true

pub overflow_add-before : goal.overflow_add-before
overflow_add-before c = omega (arith, head_most _ c.size-before.ensures)

pub overflow_add-place : goal.overflow_add-place
overflow_add-place c = omega (arith, head_most _ c.size-before.ensures, c.requires)

pub open_tree-requires : goal.open_tree-requires
open_tree-requires c = omega (arith, head_most _ c.size-before.ensures, c.requires)

pub returns : goal.returns
returns c =
    this_kind _ _ c.word32.ensures.0 c.of_code-kind.ensures c.has_esds.ensures c.if-not-has_esds.false c.size-before.ensures
    c.rest.ensures c.open_tree.ensures
