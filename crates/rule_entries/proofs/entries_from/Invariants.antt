-- The invariant: every entry before the walk's place meets its rule.
use Prim.Native.Nat.{◌-◌}
use Rattle.rule_entries.proofs.Entry.{Met}
use lib.ListN.{length}
use Rattle.rule_entries.proofs.entries_from.Given as goal

abbrev pub invariant-loop-b : goal.invariant-loop-b
invariant-loop-b l = Met l.around l.release l.list l.base l.w.at

abbrev pub decreases-loop-b : goal.decreases-loop-b
decreases-loop-b l = length l.list - l.w.at
