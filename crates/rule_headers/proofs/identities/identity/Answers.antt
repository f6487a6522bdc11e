use Rattle.rule_headers.proofs.Fresh.{identity_is}
use Rattle.rule_headers.proofs.identities.identity.Goals as goal

pub returns : goal.returns
returns c = identity_is _ _ c.payload-trak.ensures c.payload.ensures c.word32.ensures.0
