-- The rules that hold at once are passed. Assumes nothing.
use Prim.Native.Nat.{ℕ, ◌≤◌}
use native.Mathlib.Omega.{arith}
use mathlib.Core.Path.{◌≡◌, ◌∙◌}
use mathlib.Core.List.{List, [], ◌∷◌}
use lib.ListN.{length}
use Rattle.wire.specs.Tests.{if_eq, if_lt}
use Rattle.wire.proofs.Tests.{eq_or}
use Rattle.boxes.specs.Boxes.{boxes}
use Rattle.boxes.specs.Containers.{FILE, DEPTH, LONGEST}
use Rattle.release.specs.Releases.{release_of}
use Rattle.rule.specs.Rule.{Rule}
use Rattle.rule.proofs.Places.{placed_says}
use Rattle.rule.proofs.Acceptance.{each_says}
use Rattle.rule_shape.specs.Two.{tiled_rule, shut_in, two_rule}
use Rattle.rule_shape.specs.Three.{three_rule}
use Rattle.rule_headers.specs.Four.{four_rule}
use Rattle.rule_headers.proofs.Rule4.{four_says}
use Rattle.rule_lists.specs.Five.{five_rule}
use Rattle.rule_lists.specs.Nine.{nine_rule}
use Rattle.rule_lists.proofs.Rules.{five_says, nine_says}
use Rattle.rule_tracks.specs.Six.{six_rule}
use Rattle.rule_tracks.specs.Seven.{seven_rule}
use Rattle.rule_tracks.specs.Eight.{eight_rule}
use Rattle.rule_tracks.proofs.KeptEight.{eight_says}
use Rattle.rule_entries.specs.Ten.{ten}
use Rattle.rule_entries.proofs.Kept.{ten_says}
use Rattle.rule_all.specs.All.{also, rules_to_nine, SureBefore}
use Rattle.rule_all.proofs.All.{also_first, also_second}
use Rattle.judge.specs.One.{one_rule}
use Rattle.judge.specs.Judgement.{judged_from, judged}
use Rattle.judge.specs.Acceptance.{Holds}
use Rattle.judge.specs.Asked.{leaf_by, node_by, judge_by}
use Rattle.judge.proofs.One.{one_holds}
use Rattle.judge.proofs.Exact.{skip}
use Rattle.judge.proofs.Order.{Passed, passed_none}

split : (r s : Rule) (xs : List ℕ) → Holds (also r s) xs → Holds r xs × Holds s xs
split r s xs h = (also_first r s DEPTH FILE xs h, also_second r s DEPTH FILE xs h)

module _ (xs : List ℕ) (least : 8 ≤ length xs) (most : length xs ≤ LONGEST) where
  -- rule 1 and rules 2 to 9
  nine_passed : Holds (rules_to_nine (boxes xs)) xs → judged xs ≡ judged_from 10 (ten (release_of (boxes xs)) ∷ []) xs
  unfolding judged
  nine_passed h =
      let l = boxes xs in
      let two = split two_rule _ xs h in
      let three = split three_rule _ xs two.1 in
      let four = split four_rule _ xs three.1 in
      let five = split five_rule _ xs four.1 in
      let six = split six_rule _ xs five.1 in
      let seven = split seven_rule _ xs six.1 in
      let eight = split (eight_rule l) nine_rule xs seven.1 in
      skip (placed_says one_rule) 1 _ xs (one_holds xs least most) ∙ skip (each_says shut_in tiled_rule) 2 _ xs two.0
      ∙ skip (placed_says three_rule) 3 _ xs three.0 ∙ skip four_says 4 _ xs four.0 ∙ skip five_says 5 _ xs five.0
      ∙ skip (placed_says six_rule) 6 _ xs six.0 ∙ skip (placed_says seven_rule) 7 _ xs seven.0 ∙ skip (eight_says l) 8 _ xs eight.0
      ∙ skip nine_says 9 _ xs eight.1

  -- so the rules from the answer on are left
  pub sure_passed : {r : ℕ} → SureBefore xs r → Passed xs r
  unfolding leaf_by node_by judge_by if_eq if_lt
  sure_passed {r} s =
      eq_or r 10 (λ e. rw e (record { most = omega arith; is = nine_passed (s.nine (omega arith)) }))
      (λ n. eq_or r 11 (λ e. rw e (record { most = omega arith; is = nine_passed (s.nine (omega arith)) ∙ skip (ten_says (release_of (boxes xs))) 10 [] xs (s.ten (omega arith)) }))
      (λ m. let e : r ≡ 2 = s.low (omega (arith, s.most)) in rw e (passed_none xs least most)))
