-- Laws of rule 5 in one box. Assumes nothing.
use Prim.Native.Nat.{ℕ, ◌≤◌, ◌<◌}
use native.Mathlib.Omega.{arith}
use mathlib.Core.Path.{◌≡◌, refl, sym, ◌∙◌}
use mathlib.Core.Bool.{Bool, true, false}
use mathlib.Core.List.{List, [], ◌∷◌}
use lib.ListN.{length, drop}
use Rattle.wire.specs.Tests.{pick}
use Rattle.wire.specs.Clauses.{is_le, is_eq, every}
use Rattle.wire.specs.Numbers.{word}
use Rattle.wire.proofs.Clauses.{is_eq_lem, is_le_lem, eq_is, le_is, not_eq, not_le, clause, fails, holds, done}
use Rattle.boxes.specs.Boxes.{FRONT, boxes}
use Rattle.boxes.specs.Seek.{ANY, count, plain_tiles}
use Rattle.boxes.proofs.Tallying.{told_yea, told_nay}
use Rattle.movie.specs.Movie.{stored_count}
use Rattle.rule_lists.specs.Five.{list_form, listed, Listed}

pub form_is : (b : List ℕ) → list_form b ≡ true → Listed b
unfolding list_form
form_is b e =
    record {
      room = le_is _ _ (clause 0 _ e);
      front = eq_is _ _ (clause 1 _ e);
      some = le_is _ _ (clause 2 _ e);
      tiled = eq_is _ _ (clause 0 _ (clause 3 _ e));
      plain = clause 1 _ (clause 3 _ e);
      counted = eq_is _ _ (clause 4 _ e);
    }

-- ---- the count that is listed

module _ (b : List ℕ) where
  abbrev fronted : Bool
  fronted = every (is_le FRONT (length b) ∷ is_eq (word 4 b 0) 0 ∷ [])

  unlisted : false ≡ fronted → 0 ≡ listed b
  unfolding listed
  unlisted e = rw (← e)

  pub listed_short : length b < FRONT → 0 ≡ listed b
  listed_short h = unlisted (fails 0 _ (not_le _ _ h))

  pub listed_not : (word 4 b 0 ≡ 0 → ⊥) → 0 ≡ listed b
  listed_not h = unlisted (fails 1 _ (not_eq _ _ h))

  pub listed_is : FRONT ≤ length b → word 4 b 0 ≡ 0 → stored_count b ≡ listed b
  unfolding listed
  listed_is h e = let f : true ≡ fronted = holds _ _ (is_le_lem _ _ h) (holds _ _ (is_eq_lem _ _ e) done) in rw (← f)

-- ---- the first clauses by that count, the last two by that of the boxes

module _ (b : List ℕ) {n : ℕ} (k : n ≡ listed b) where
  started : 1 ≤ n → (FRONT ≤ length b) × (word 4 b 0 ≡ 0) × (n ≡ stored_count b)
  unfolding listed
  started h = go (fronted b) refl k
    where
      go : (t : Bool) → fronted b ≡ t → n ≡ pick t (stored_count b) 0 → (FRONT ≤ length b) × (word 4 b 0 ≡ 0) × (n ≡ stored_count b)
      go true e q = (le_is _ _ (clause 0 _ e), eq_is _ _ (clause 1 _ e), q)
      go false e q = absurd (omega arith)

  pub form_none : n ≡ 0 → false ≡ list_form b
  form_none z = go (list_form b) refl
    where
      go : (t : Bool) → list_form b ≡ t → false ≡ t
      go false e = refl
      go true e =
          let l = form_is b e in
          absurd (omega (arith, l.some, listed_is b l.room l.front))

  module _ {r : ℕ} (some : 1 ≤ n) (e : r ≡ pick (plain_tiles (drop FRONT b)) (count ANY (boxes (drop FRONT b))) 0) where
    first : {t : Bool} → t ≡ every (plain_tiles (drop FRONT b) ∷ is_eq (count ANY (boxes (drop FRONT b))) (stored_count b) ∷ []) → t ≡ list_form b
    unfolding list_form
    first h = let s = started some in holds _ _ (is_le_lem _ _ s.0) (holds _ _ (is_eq_lem _ _ s.1) (holds _ _ (is_le_lem _ _ (omega arith)) h))

    pub form_yea : r ≡ n → true ≡ list_form b
    form_yea q = first (told_yea _ _ _ e (q ∙ (started some).2) (omega (arith, (started some).2)))

    pub form_nay : (r ≡ n → ⊥) → false ≡ list_form b
    form_nay q = first (told_nay _ _ _ e (λ z. q (z ∙ sym (started some).2)))
