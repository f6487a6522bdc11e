-- The fields where they stand.
use Rattle.modes.proofs.Described.{speech_is}
use Rattle.modes.proofs.speech.read.Goals as goal

pub returns : goal.returns
returns c = speech_is _ c.codec_of.ensures c.word16.ensures.0 c.byte.ensures.0
