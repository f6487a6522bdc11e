-- What the answers of rules 6 and 7 say. Assumes nothing.
use Prim.Native.Nat.{ℕ}
use mathlib.Core.Path.{◌≡◌, ap, ◌∙◌}
use mathlib.Core.Bool.{Bool, true, false}
use mathlib.Core.List.{List}
use borrow.Author.Tests.{eq-eqb, ne_eqb}
use Rattle.wire.specs.Tests.{if_eq}
use Rattle.wire.specs.Numbers.{word}
use Rattle.wire.specs.Clauses.{one_if}
use Rattle.codes.specs.Codes.{STSD, STTS, STSC, STSZ, STCO}
use Rattle.wire.proofs.Clauses.{clause, was_nay, was_yea}
use Rattle.boxes.specs.Box.{Box}
use Rattle.boxes.specs.Seek.{find}
use Rattle.sample_tables.specs.Rules.{tables_agree, Six}
use Rattle.sample_tables.proofs.Tables.{form_is}
use Rattle.rule_tracks.specs.Seven.{seven_holds}
use Rattle.rule_tracks.specs.Asked.{six_holds, seven_asked}

-- ---- a choice inside an answer

pub answer_yea : (m n : ℕ) (a b : Bool) {r : ℕ} → m ≡ n → r ≡ one_if a → r ≡ one_if (if_eq m n a b)
unfolding if_eq
answer_yea m n a b h e = rw (eq-eqb m n h) e

pub answer_nay : (m n : ℕ) (a b : Bool) {r : ℕ} → (m ≡ n → ⊥) → r ≡ one_if b → r ≡ one_if (if_eq m n a b)
unfolding if_eq
answer_nay m n a b h e = rw (ne_eqb m n h) e

-- ---- what was asked of a payload is asked of what was found

module _ (t : List ℕ → Bool) {r : ℕ} {b : List ℕ} (e : r ≡ one_if (t b)) where
  pub found_nay : (d : List ℕ) → b ≡ d → r ≡ 0 → t d ≡ false
  found_nay d q z = was_nay (t d) r z (e ∙ ap (λ (u : List ℕ). one_if (t u)) q)

  pub found_yea : (d : List ℕ) → b ≡ d → (r ≡ 0 → ⊥) → t d ≡ true
  found_yea d q z = was_yea (t d) r z (e ∙ ap (λ (u : List ℕ). one_if (t u)) q)

-- rule 6 of the four tables, as facts
pub six_is : (l : List Box) → six_holds l ≡ true → Six (find STTS l) (find STSC l) (find STSZ l) (find STCO l)
unfolding six_holds
six_is l e = record { times = form_is _ _ (clause 0 _ e); runs = form_is _ _ (clause 1 _ e); sizes = form_is _ _ (clause 2 _ e); offsets = form_is _ _ (clause 3 _ e) }

-- rule 7 is read where rule 6 holds
module _ (l : List Box) where
  pub seven_shut : six_holds l ≡ false → true ≡ seven_asked l
  unfolding seven_asked
  seven_shut e = rw e

  pub seven_open : {r : Bool} → six_holds l ≡ true
      → r ≡ tables_agree (find STTS l) (find STSC l) (find STSZ l) (find STCO l) (word 4 (find STSD l) 4) → r ≡ seven_asked l
  unfolding seven_asked seven_holds
  seven_open e q = rw e q
