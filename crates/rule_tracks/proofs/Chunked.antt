-- What rules 6, 7 and 8 say of an `stbl`. Assumes nothing.
use Prim.Native.Nat.{ℕ, suc}
use mathlib.Core.Path.{◌≡◌}
use mathlib.Core.Bool.{true}
use mathlib.Core.List.{List}
use Rattle.wire.specs.Tests.{if_eq}
use Rattle.wire.specs.Numbers.{word}
use Rattle.codes.specs.Codes.{STBL, STSD, STTS, STSC, STSZ, STCO}
use Rattle.boxes.specs.Box.{Box}
use Rattle.boxes.specs.Boxes.{boxes}
use Rattle.boxes.specs.Seek.{find}
use Rattle.sample_tables.specs.Rules.{tables_agree, Six}
use Rattle.mdat.specs.Rules.{chunks_lie}
use Rattle.rule.specs.Rule.{all_in}
use Rattle.rule.proofs.Opened.{opened}
use Rattle.rule_shape.specs.Three.{three_rule}
use Rattle.rule_tracks.specs.Six.{six_rule}
use Rattle.rule_tracks.specs.Seven.{seven_in, seven_holds, seven_rule}
use Rattle.rule_tracks.specs.Eight.{eight_in, eight_holds, eight_rule}
use Rattle.rule_tracks.proofs.Answers.{six_is}
use Rattle.rule_tracks.proofs.Asked.{six_held}

-- rules 3, 6, 7 and 8 hold of a part of a file with the boxes l
pub record Chunked (l : List Box) (d k : ℕ) (xs : List ℕ) : Type 0 where
  pub three : all_in three_rule d k xs ≡ true
  pub six : all_in six_rule d k xs ≡ true
  pub seven : all_in seven_rule d k xs ≡ true
  pub eight : all_in (eight_rule l) d k xs ≡ true

-- an `stbl`
module _ {l : List Box} {d : ℕ} {xs : List ℕ} (s : Chunked l (suc d) STBL xs) where
  -- its tables have their lengths
  pub stbl_six : Six (find STTS (boxes xs)) (find STSC (boxes xs)) (find STSZ (boxes xs)) (find STCO (boxes xs))
  stbl_six = six_is (boxes xs) (six_held (record { three = s.three; rule = s.six }))

  -- they agree
  pub stbl_seven : tables_agree (find STTS (boxes xs)) (find STSC (boxes xs)) (find STSZ (boxes xs)) (find STCO (boxes xs)) (word 4 (find STSD (boxes xs)) 4) ≡ true
  unfolding seven_in seven_holds if_eq
  stbl_seven = (opened seven_rule d STBL xs s.seven).node

  -- and each chunk lies in a payload
  pub stbl_eight : chunks_lie l (find STSC (boxes xs)) (find STSZ (boxes xs)) (find STCO (boxes xs)) ≡ true
  unfolding eight_in eight_holds if_eq
  stbl_eight = (opened (eight_rule l) d STBL xs s.eight).node
