-- Rules 7 and 8 as code asks them: where the rules below hold of a file the verdict is that of the rule. Assumes nothing.
use Prim.Native.Nat.{ℕ, suc}
use mathlib.Core.Path.{◌≡◌, refl, sym, ap, subst, ◌∙◌}
use mathlib.Core.Bool.{Bool, true}
use mathlib.Core.List.{List}
use Rattle.wire.specs.Tests.{if_eq}
use Rattle.wire.proofs.Tests.{eq_yea, eq_same}
use Rattle.wire.proofs.Clauses.{holds, done}
use Rattle.codes.specs.Codes.{STBL, STTS, STSC, STSZ, STCO}
use Rattle.boxes.specs.Box.{Box}
use Rattle.boxes.specs.Boxes.{boxes}
use Rattle.boxes.specs.Containers.{parent, kind_in}
use Rattle.boxes.proofs.Reading.{All}
use Rattle.boxes.proofs.Every.{all_with}
use Rattle.rule.specs.Verdict.{unless}
use Rattle.rule.specs.Judge.{judge_in}
use Rattle.rule.specs.Rule.{all_in}
use Rattle.rule.proofs.Opened.{opened}
use Rattle.rule.proofs.Alike.{same_verdict}
use Rattle.rule_shape.specs.Three.{needed}
use Rattle.rule_shape.proofs.Descent.{Met, met_inside, needed_leaf}
use Rattle.rule_tracks.specs.Six.{table_fine, table_in, six_rule}
use Rattle.rule_tracks.specs.Seven.{seven_holds, seven_in, seven_rule, seven}
use Rattle.rule_tracks.specs.Eight.{eight_at, eight}
use Rattle.rule_tracks.specs.Asked.{six_holds, seven_asked, eight_asked, seven_asked_in, eight_asked_at, asked_seven, asked_eight}

-- the tables of an `stbl` have their lengths where rules 3 and 6 hold of it
pub six_held : {d : ℕ} {xs : List ℕ} → Met six_rule (suc d) STBL xs → six_holds (boxes xs) ≡ true
unfolding six_holds table_in table_fine needed kind_in parent if_eq
six_held m =
    sym (holds _ _ (needed_leaf m STTS refl refl) (holds _ _ (needed_leaf m STSC refl refl)
    (holds _ _ (needed_leaf m STSZ refl refl) (holds _ _ (needed_leaf m STCO refl refl) done))))

-- ---- rule 7

seven_node : (d k : ℕ) (xs : List ℕ) (home p : ℕ) → Met six_rule (suc d) k xs → asked_seven.node k xs home p ≡ seven.node k xs home p
unfolding seven_asked_in seven_in seven_asked
seven_node d k xs home p m =
    ap (λ (t : Bool). unless t home) (eq_same k STBL (seven_asked (boxes xs)) (seven_holds (boxes xs)) true
    (λ e. rw (six_held (subst (λ (i : ℕ). Met six_rule (suc d) i xs) e m))))

pub seven_asked_lem : (d k : ℕ) (xs : List ℕ) (home p : ℕ) → Met six_rule d k xs → judge_in asked_seven d k xs home p ≡ judge_in seven d k xs home p
seven_asked_lem = same_verdict asked_seven.node seven.node seven.leaf seven.end (Met six_rule) (λ d k xs. met_inside) seven_node

-- ---- rule 8

-- rules 3, 6 and 7 hold of a part
pub record Tabled (d k : ℕ) (xs : List ℕ) : Type 0 where
  pub six : Met six_rule d k xs
  pub seven : all_in seven_rule d k xs ≡ true

tabled_inside : (d k : ℕ) (xs : List ℕ) → Tabled (suc d) k xs → All (λ x. (kind_in k x.code ≡ 0 → ⊥) → Tabled d (kind_in k x.code) x.body) (boxes xs)
tabled_inside d k xs t = all_with (λ x p q z. record { six = p z; seven = q z }) (met_inside t.six) (opened seven_rule d k xs t.seven).inside

module _ (l : List Box) where
  eight_node : (d k : ℕ) (xs : List ℕ) (home p : ℕ) → Tabled (suc d) k xs → (asked_eight l).node k xs home p ≡ (eight l).node k xs home p
  unfolding eight_asked_at eight_at eight_asked seven_in
  eight_node d k xs home p t =
      eq_same k STBL _ _ _ (λ e.
      let s = six_held (subst (λ (i : ℕ). Met six_rule (suc d) i xs) e t.six) in
      let h : seven_holds (boxes xs) ≡ true = eq_yea _ _ _ _ _ e refl ∙ (opened seven_rule d k xs t.seven).node in
      rw (s, h))

  pub eight_asked_lem : (d k : ℕ) (xs : List ℕ) (home p : ℕ) → Tabled d k xs → judge_in (asked_eight l) d k xs home p ≡ judge_in (eight l) d k xs home p
  eight_asked_lem = same_verdict (asked_eight l).node (eight l).node (eight l).leaf (eight l).end Tabled tabled_inside eight_node
