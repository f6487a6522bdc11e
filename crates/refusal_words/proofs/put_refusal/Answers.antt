-- The pieces one after the other.
use mathlib.Core.Path.{◌∙◌}
use Rattle.refusal_words.specs.RefusalWords.{refused_text}
use Rattle.wire.proofs.Writing.{pen_is, pen_then}
use Rattle.refusal_words.proofs.put_refusal.Goals as goal

pub returns : goal.returns
unfolding refused_text
returns c =
    let placed = pen_then c.put_labelled-a.ensures.0 c.put_place-b.ensures.0 in
    let meant = pen_is (c.as_bytes.ensures.value ∙ c.meaning.ensures.words) c.put_part-d.ensures in
    pen_then (pen_then (pen_then placed c.put_part-c.ensures) meant) c.put_part.ensures
