-- The frame, the headers, and then the tracks.
use mathlib.Core.Path.{sym, ◌∙◌}
use Rattle.rule_all.proofs.Steps.{unsure}
use Rattle.rule_all.proofs.Framing.{few_tracks, sure_of}
use Rattle.rule_all.proofs.sure_tracks.Goals as goal

pub returns-in_default : goal.returns-in_default
returns-in_default c = unsure c.doubted.ensures

pub heads_fine-requires : goal.heads_fine-requires
heads_fine-requires c = let l = c.in-Some.ensures.1 in (l.ftyp.lies, l.mvhd.lies)

pub returns-then-not-heads_fine : goal.returns-then-not-heads_fine
returns-then-not-heads_fine c = unsure c.doubted-then-not-heads_fine.ensures

pub tracks_told-requires : goal.tracks_told-requires
tracks_told-requires c = let l = c.in-Some.ensures in (l.1, l.2, few_tracks l.1 l.0, c.requires)

pub returns : goal.returns
returns c = (
  sure_of c.in-Some.ensures.1 c.in-Some.ensures.0 (sym c.heads_fine.ensures ∙ c.if-not-heads_fine.false) c.tracks_told.ensures.0,
  c.tracks_told.ensures.1,
)
