-- Rules 2 and 3 of the file that frames become, and refusal 23, which lets it pass. Assumes nothing.
use Prim.Native.Nat.{ℕ}
use mathlib.Core.Path.{◌≡◌, refl}
use mathlib.Core.Bool.{true}
use mathlib.Core.List.{List}
use Rattle.wire.specs.Tests.{if_eq}
use Rattle.wire.specs.Clauses.{is_eq, is_le, every}
use Rattle.boxes.specs.Seek.{meant, count}
use Rattle.frames.specs.declared.codec.Codec.{Codec}
use Rattle.rule.specs.Rule.{all_list}
use Rattle.rule_shape.specs.Two.{two_rule, may_have}
use Rattle.rule_shape.specs.Three.{three_rule, needed, exactly, first, besides, shape}
use Rattle.rule_shape.specs.TwentyThree.{editable_rule, barred}
use Rattle.judge.specs.Acceptance.{Holds, editable}
use Rattle.from_amr.specs.File.{file_of}
use Rattle.promise_amr.proofs.Reading.{Reads}
use Rattle.promise_amr.proofs.Ruled.{holds}

module _ (k : Codec) (l : List (List ℕ)) (b : Reads k l) where
  pub two : Holds two_rule (file_of k l)
  unfolding every all_list may_have if_eq is_eq
  two = holds k l b two_rule (rw (b.file.list, b.moov.list, b.trak.list, b.mdia.list, b.minf.list, b.dinf.list, b.stbl.list)) refl refl

  pub three : Holds three_rule (file_of k l)
  unfolding shape exactly needed besides first count meant every is_eq is_le if_eq
  three = holds k l b three_rule (rw (b.file.list, b.moov.list, b.trak.list, b.mdia.list, b.minf.list, b.dinf.list, b.stbl.list)) refl refl

  -- edits take it
  pub takes_edits : editable (file_of k l) ≡ true
  unfolding exactly barred count meant every is_eq if_eq
  takes_edits = holds k l b editable_rule (rw (b.file.list, b.moov.list, b.trak.list, b.stbl.list)) refl refl
