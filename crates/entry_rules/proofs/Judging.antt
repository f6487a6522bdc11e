-- The parts of the rule, from the whole and back. Assumes nothing.
use Prim.Native.Nat.{ℕ, ◌≤◌}
use native.Mathlib.Omega.{arith}
use mathlib.Core.Path.{◌≡◌, refl, sym}
use mathlib.Core.Bool.{true}
use mathlib.Core.List.{List}
use lib.ListN.{length, drop}
use Rattle.wire.specs.Numbers.{word}
use Rattle.wire.proofs.Tests.{eq_nay}
use Rattle.wire.proofs.Clauses.{is_eq_lem, eq_is, holds, done, clause}
use Rattle.release.specs.declared.Release.{Release}
use Rattle.entry_heads.specs.Kinds.{SamrKind, S263Kind}
use Rattle.entry_heads.specs.Heads.{head_size, head_rule}
use Rattle.std.specs.Prelude.{Option}
use Rattle.entry_rules.specs.declared.entry.Around.{Around}
use Rattle.entry_rules.specs.Decoders.{box_rule, record_rule}
use Rattle.entry_rules.specs.Entries.{around_rule, inside_rule, rule_as}

-- an entry of a kind meets its rule
pub record Met (kind : ℕ) (around : Option Around) (release : Release) (xs : List ℕ) : Type 0 where
  pub span : word 4 xs 0 ≡ length xs
  pub head : head_rule kind xs ≡ true
  pub fits : around_rule around kind xs ≡ true
  pub inside : inside_rule kind release (drop (head_size kind) xs) ≡ true

module _ (kind : ℕ) (around : Option Around) (release : Release) (xs : List ℕ) where
  pub rule_met : rule_as kind around release xs ≡ true → Met kind around release xs
  unfolding rule_as
  rule_met e = record { span = eq_is _ _ (clause 0 _ e); head = clause 1 _ e; fits = clause 2 _ e; inside = clause 3 _ e }

  pub rule_is : Met kind around release xs → rule_as kind around release xs ≡ true
  unfolding rule_as
  rule_is m = sym (holds _ _ (is_eq_lem _ _ m.span) (holds _ _ m.head (holds _ _ m.fits (holds _ _ m.inside done))))

-- what follows the head of `samr`, `sawb` and `s263` is a decoder record
pub inside_record : (kind : ℕ) (release : Release) (xs : List ℕ) → SamrKind ≤ kind → kind ≤ S263Kind → inside_rule kind release xs ≡ record_rule kind release xs
unfolding inside_rule
inside_record kind release xs h k =
    sym
    (eq_nay _ _ _ _ _ (λ e. omega arith)
    (eq_nay _ _ _ _ _ (λ e. omega arith) (eq_nay _ _ _ _ _ (λ e. omega arith) (eq_nay _ _ _ _ _ (λ e. omega arith) refl))))

-- one whole box
module _ (code : ℕ) (xs : List ℕ) where
  pub box_met : box_rule code xs ≡ true → (word 4 xs 0 ≡ length xs) × (word 4 xs 4 ≡ code)
  unfolding box_rule
  box_met e = (eq_is _ _ (clause 0 _ e), eq_is _ _ (clause 1 _ e))

  pub box_is : word 4 xs 0 ≡ length xs → word 4 xs 4 ≡ code → box_rule code xs ≡ true
  unfolding box_rule
  box_is e f = sym (holds _ _ (is_eq_lem _ _ e) (holds _ _ (is_eq_lem _ _ f) done))
