-- The frame, the headers, and then the tracks.
use mathlib.Core.Path.{sym, ◌∙◌}
use Rattle.rule_all.proofs.All.{sure_before_none}
use Rattle.rule_all.proofs.Framing.{few_tracks, sure_of}
use Rattle.rule_all.proofs.sure_before.Goals as goal

pub returns-in_default : goal.returns-in_default
returns-in_default c = sure_before_none _

pub heads_fine-requires : goal.heads_fine-requires
heads_fine-requires c = let l = c.in-Some.ensures.1 in (l.ftyp.lies, l.mvhd.lies)

pub returns-then-not-heads_fine : goal.returns-then-not-heads_fine
returns-then-not-heads_fine c = sure_before_none _

pub tracks_fine-requires : goal.tracks_fine-requires
tracks_fine-requires c = let l = c.in-Some.ensures.1 in (l, few_tracks l c.in-Some.ensures.0, c.requires)

pub returns : goal.returns
returns c = sure_of c.in-Some.ensures.1 c.in-Some.ensures.0 (sym c.heads_fine.ensures ∙ c.if-not-heads_fine.false) c.tracks_fine.ensures
