-- Rates, from their rule and back: with a `bitr`, or without. Assumes nothing.
use Prim.Native.Nat.{◌<◌}
use mathlib.Core.Path.{◌≡◌, sym}
use mathlib.Core.Bool.{true}
use mathlib.Core.Logic.{◌⊎◌, inl, inr}
use Rattle.wire.proofs.Clauses.{is_eq_lem, eq_is, is_lt_lem, lt_is, holds, done, clause, one, of_two}
use Rattle.entry_records.specs.declared.field.Rates.{Rates}
use Rattle.entry_records.specs.Fields.{rates_rule}

pub record Rated (r : Rates) : Type 0 where
  pub flag : r.given ≡ 1
  pub average : r.average < 4294967296
  pub maximum : r.maximum < 4294967296

pub record Plain (r : Rates) : Type 0 where
  pub flag : r.given ≡ 0
  pub average : r.average ≡ 0
  pub maximum : r.maximum ≡ 0

module _ (r : Rates) where
  pub rates_met : rates_rule r ≡ true → Rated r ⊎ Plain r
  unfolding rates_rule
  rates_met e =
      of_two _ _ e (λ w. inl (record { flag = eq_is _ _ (clause 0 _ w); average = lt_is _ _ (clause 1 _ w); maximum = lt_is _ _ (clause 2 _ w) }))
      (λ w. inr (record { flag = eq_is _ _ (clause 0 _ w); average = eq_is _ _ (clause 1 _ w); maximum = eq_is _ _ (clause 2 _ w) }))

  pub rated_rule : Rated r → rates_rule r ≡ true
  unfolding rates_rule
  rated_rule h = sym (one 0 _ (sym (holds _ _ (is_eq_lem _ _ h.flag) (holds _ _ (is_lt_lem _ _ h.average) (holds _ _ (is_lt_lem _ _ h.maximum) done)))))

  pub plain_rule : Plain r → rates_rule r ≡ true
  unfolding rates_rule
  plain_rule h = sym (one 1 _ (sym (holds _ _ (is_eq_lem _ _ h.flag) (holds _ _ (is_eq_lem _ _ h.average) (holds _ _ (is_eq_lem _ _ h.maximum) done)))))
