-- The count of a track's `dref`.
use Rattle.movie.proofs.Finding.{references_are}
use Rattle.movie.proofs.references.Goals as goal

pub returns : goal.returns
returns c = (references_are _ c.payload-mdia.ensures c.payload-minf.ensures c.payload-dinf.ensures c.payload.ensures c.word32.ensures.0, c.word32.ensures.1)
