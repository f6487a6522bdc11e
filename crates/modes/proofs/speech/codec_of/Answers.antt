-- By the kind of the code.
use Rattle.modes.proofs.Described.{codec_amr, codec_wide}
use Rattle.modes.proofs.speech.codec_of.Goals as goal

pub returns-then-of_code-eq-SAMR : goal.returns-then-of_code-eq-SAMR
returns-then-of_code-eq-SAMR c = codec_amr _ c.word32.ensures.0 c.of_code.ensures c.if-of_code-eq-SAMR.true

pub returns : goal.returns
returns c = codec_wide _ c.word32.ensures.0 c.of_code.ensures c.if-of_code-eq-SAMR.false
