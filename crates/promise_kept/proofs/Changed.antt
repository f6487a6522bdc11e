-- An `stsd` in which one entry has another decoder record. Assumes nothing.
use Prim.Native.Nat.{ℕ, ◌+◌, ◌-◌, ◌≤◌}
use native.Mathlib.Omega.{arith}
use mathlib.Core.Path.{◌≡◌, sym, ap, ◌∙◌}
use mathlib.Core.Bool.{Bool, true}
use mathlib.Core.List.{List, [], ◌∷◌, ◌++◌}
use lib.ListN.{length, take, drop, length-take, take-append-drop}
use lib.Seq.{length-take-le}
use Rattle.wire.specs.Numbers.{word}
use Rattle.wire.proofs.Tests.{both}
use Rattle.wire.proofs.Numbers.{word_left}
use Rattle.wire.proofs.Clauses.{is_le_lem, clause, holds, done}
use Rattle.boxes.specs.declared.walk.Form.TheVariants.{Plain}
use Rattle.boxes.specs.Box.{Box, remade}
use Rattle.boxes.specs.Boxes.{HEAD, boxes, after, FRONT}
use Rattle.boxes.specs.Seek.{ANY, count, all_plain, plain_tiles}
use Rattle.boxes.specs.Way.{tail_by}
use Rattle.boxes.proofs.Whole.{Good}
use Rattle.boxes.proofs.Reading.{All}
use Rattle.boxes.proofs.Reading.All.{some}
use Rattle.boxes.proofs.Tallying.{PlainBox, each_plain, plain_each}
use Rattle.boxes.proofs.Numbered.{count_append}
use Rattle.entry_heads.specs.Kinds.{kind_of}
use Rattle.entry_heads.specs.Heads.{head_size}
use Rattle.release.specs.declared.Release.{Release}
use Rattle.std.specs.Prelude.{Option}
use Rattle.entry_rules.specs.declared.entry.Around.{Around}
use Rattle.entry_rules.specs.Decoders.{record_rule}
use Rattle.rule.specs.Rule.{all_list}
use Rattle.movie.specs.Movie.{stored_count}
use Rattle.rule_lists.specs.Five.{list_form}
use Rattle.rule_entries.specs.Ten.{entry_fine, entries_fine}
use Rattle.promise_kept.proofs.Entry.{entry_changed}

-- b' is b with the given record, one of a release, behind the head of one entry, which is of a kind that has one
pub record Changed (release : Release) (new b b' : List ℕ) : Type 0 where
  pub kind : ℕ
  pub before : List Box
  pub entry : Box
  pub past : List Box
  pub old : boxes (drop FRONT b) ≡ before ++ entry ∷ past
  pub made : boxes (drop FRONT b') ≡ before ++ remade entry (tail_by (head_size kind - HEAD) new entry.body) ∷ past
  pub room : FRONT ≤ length b
  pub front : take FRONT b' ≡ take FRONT b
  pub rest : after (drop FRONT b') ≡ after (drop FRONT b)
  pub good : Good entry
  pub plain : entry.form ≡ Plain
  pub is : kind_of entry.code ≡ kind
  pub meets : record_rule kind release new ≡ true

-- one box of a list for another
all_swap : (f : Box → Bool) (t : Bool) (p : List Box) (x y : Box) (q : List Box) → (f x ≡ true → f y ≡ true) → all_list f t (p ++ x ∷ q) ≡ true → all_list f t (p ++ y ∷ q) ≡ true
unfolding all_list
all_swap f t [] x y q h e = let u = both (f x) (all_list f t q) e in rw (h u.0) u.1
all_swap f t (z ∷ p) x y q h e = let u = both (f z) (all_list f t (p ++ x ∷ q)) e in rw u.0 (all_swap f t p x y q h u.1)

in_front : (xs : List ℕ) (at : ℕ) → FRONT ≤ length xs → at + 4 ≤ FRONT → word 4 (take FRONT xs) at ≡ word 4 xs at
in_front xs at k h =
    sym (word_left 4 (take FRONT xs) (drop FRONT xs) at (omega (arith, length-take-le FRONT xs k))) ∙ ap (λ (u : List ℕ). word 4 u at) (take-append-drop FRONT xs)

module _ (release : Release) (new b b' : List ℕ) (c : Changed release new b b') where
  abbrev after_it : Box
  after_it = remade c.entry (tail_by (head_size c.kind - HEAD) new c.entry.body)

  -- rule 10: the entries are still fine, around whichever track
  pub changed_fine : (a : Option Around) → entries_fine a release (drop FRONT b) ≡ true → entries_fine a release (drop FRONT b') ≡ true
  unfolding entries_fine
  changed_fine a q =
      rw c.made (all_swap (entry_fine a release) true c.before c.entry after_it c.past (entry_changed c.entry c.good c.plain a release c.kind new c.is c.meets) (rw c.old at q))

  -- ---- rule 5

  changed_count : count ANY (boxes (drop FRONT b')) ≡ count ANY (boxes (drop FRONT b))
  unfolding count
  changed_count = rw (c.made, c.old, count_append ANY c.before (after_it ∷ c.past), count_append ANY c.before (c.entry ∷ c.past))

  long : FRONT ≤ length b'
  long = let n = ap length c.front in omega (arith, length-take FRONT b', length-take FRONT b, c.room)

  -- a number of the front
  changed_word : (at : ℕ) → at + 4 ≤ FRONT → word 4 b' at ≡ word 4 b at
  changed_word at h = sym (in_front b' at long h) ∙ ap (λ (u : List ℕ). word 4 u at) c.front ∙ in_front b at c.room h

  -- the stored count is kept
  pub changed_stored : stored_count b ≡ stored_count b'
  changed_stored = sym (changed_word 4 (omega arith))

  -- plain boxes
  swapped : all_plain (boxes (drop FRONT b)) ≡ true → all_plain (boxes (drop FRONT b')) ≡ true
  swapped q = rw c.made (plain_each (all_swap_each c.before (each_plain (c.before ++ c.entry ∷ c.past) (rw c.old at q))))
    where
      all_swap_each : (p : List Box) → All PlainBox (p ++ c.entry ∷ c.past) → All PlainBox (p ++ after_it ∷ c.past)
      all_swap_each [] (some h a) = some {x = after_it} h a
      all_swap_each (z ∷ p) (some h a) = some h (all_swap_each p a)

  -- the form is kept
  pub changed_form : list_form b ≡ true → list_form b' ≡ true
  unfolding list_form
  changed_form q =
      let p = clause 3 _ q in
      let plain : plain_tiles (drop FRONT b') ≡ true = rw c.rest (sym (holds _ _ (clause 0 _ p) (holds _ _ (swapped (clause 1 _ p)) done))) in
      rw (changed_word 0 (omega arith), changed_word 4 (omega arith), changed_count)
      (sym (holds _ _ (is_le_lem _ _ long) (holds _ _ (clause 1 _ q) (holds _ _ (clause 2 _ q) (holds _ _ plain (holds _ _ (clause 4 _ q) done))))))
