-- An entry that meets rule 10 with its track meets it alone, by the wider rule too. Assumes nothing.
use Prim.Native.Nat.{ℕ, ◌+◌}
use mathlib.Core.Path.{◌≡◌, refl}
use mathlib.Core.Bool.{true}
use mathlib.Core.List.{List, [], ◌∷◌, ◌++◌}
use Rattle.wire.specs.Numbers.{word}
use Rattle.wire.proofs.Tests.{both}
use Rattle.boxes.specs.Box.{Box, size, header}
use Rattle.movie.specs.Entries.{Entry, entries_from}
use Rattle.release.specs.declared.Release.{Release}
use Rattle.release.specs.declared.Release.TheVariants.{Release4}
use Rattle.release.proofs.Releases.{most_wider}
use Rattle.entry_heads.specs.Kinds.{kind_of}
use Rattle.std.specs.Prelude.{Option, None}
use Rattle.entry_rules.specs.declared.entry.Around.{Around}
use Rattle.entry_rules.specs.Entries.{entry_rule}
use Rattle.entry_rules.proofs.Judging.{rule_met, rule_is}
use Rattle.entry_rules.proofs.Widening.{entry_wider}
use Rattle.rule.specs.Rule.{all_list}
use Rattle.rule_entries.specs.Ten.{entry_fine}
use Rattle.sheet_table.specs.Form.{all_meet}

pub alone : (a : Option Around) (release : Release) (xs : List ℕ) → entry_rule a release xs ≡ true → entry_rule None release xs ≡ true
unfolding entry_rule
alone a release xs e =
    let kind = kind_of (word 4 xs 4) in
    let m = rule_met kind a release xs e in
    rule_is kind None release xs (record { span = m.span; head = m.head; fits = refl; inside = m.inside })

-- so do the entries of a track
pub from_meet : (a : Option Around) (release : Release) (t : ℕ) (l : List Box) (p : ℕ) → all_list (entry_fine a release) true l ≡ true → all_meet (entries_from t l p) ≡ true
unfolding all_list entries_from all_meet
from_meet a release t [] p q = refl
from_meet a release t (x ∷ l) p q =
    let b = both (entry_fine a release x) (all_list (entry_fine a release) true l) q in
    rw (entry_wider release Release4 (most_wider release) None _ (alone a release (header x ++ x.body) b.0)) (from_meet a release t l (p + size x) b.1)

pub meet_append : (d e : List Entry) → all_meet d ≡ true → all_meet e ≡ true → all_meet (d ++ e) ≡ true
unfolding all_meet
meet_append [] e p q = q
meet_append (x ∷ d) e p q =
    let b = both (entry_rule None Release4 x.bytes) (all_meet d) p in
    rw b.0 (meet_append d e b.1 q)
