-- From the specific information outwards, each part around the one before.
use Rattle.esds.proofs.Texts.{sizes_of}
use Rattle.esds.proofs.text.measure.Goals as goal

pub returns : goal.returns
returns c = sizes_of _ _ c.specific_length-configuration.ensures c.around.ensures c.around-2.ensures
