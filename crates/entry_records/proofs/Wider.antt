-- A record that any release takes is one that Release 4 takes, with the same fields. Assumes nothing.
use mathlib.Core.Path.{◌≡◌, refl, sym}
use mathlib.Core.Bool.{Bool, true, false}
use mathlib.Core.List.{List}
use Prim.Native.Nat.{ℕ}
use Rattle.wire.specs.Tests.{pick}
use Rattle.wire.specs.Numbers.{word}
use Rattle.release.specs.declared.Release.{Release}
use Rattle.release.specs.declared.Release.TheVariants.{Release4}
use Rattle.release.proofs.Releases.{most_wider}
use Rattle.entry_heads.specs.Kinds.{kind_of}
use Rattle.std.specs.Prelude.{Option, None}
use Rattle.entry_rules.specs.Entries.{entry_rule}
use Rattle.entry_rules.proofs.Widening.{entry_wider}
use Rattle.entry_records.specs.declared.field.Record.{Record}
use Rattle.entry_records.specs.Fields.{record_in}
use Rattle.entry_records.specs.Records.{read_of}

pub read_wider : (release : Release) (xs : List ℕ) (r : Option Record) → read_of release xs ≡ r → (r ≡ None → ⊥) → read_of Release4 xs ≡ r
unfolding read_of
read_wider release xs r e n = go (entry_rule None release xs) refl e
  where
    go : (t : Bool) → entry_rule None release xs ≡ t → pick t (record_in (kind_of (word 4 xs 4)) xs) None ≡ r
        → pick (entry_rule None Release4 xs) (record_in (kind_of (word 4 xs 4)) xs) None ≡ r
    go true h f = rw (entry_wider release Release4 (most_wider release) None xs h) f
    go false h f = absurd (n (sym f))
