-- The verdict with places says what the rule says.
use Rattle.rule_entries.proofs.Kept.{entries_fine_lem}
use Rattle.rule_all.proofs.Answers.{fine_is}
use lib.ListN.{length-take, length-drop}
use native.Mathlib.Omega.{arith}
use Rattle.rule_all.proofs.track.entries_fine.Goals as goal

pub entries_from-requires : goal.entries_from-requires
entries_from-requires c = rw (c.rest.ensures, length-drop, c.bytes-4.ensures, length-take, length-drop) (omega
    (arith, c.requires.0.stsd.inside, c.requires.1))

pub returns : goal.returns
returns c = fine_is _ (rw (c.rest.ensures, c.bytes-4.ensures, c.word32-3.ensures.0, c.bytes-3.ensures, c.word32-2.ensures.0, c.bytes-2.ensures, c.word32.ensures.0, c.bytes.ensures) at c.entries_from.ensures) (entries_fine_lem _ _ _ 0) c.is_ok.ensures.value
