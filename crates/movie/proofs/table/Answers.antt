use Rattle.movie.proofs.Finding.{table_is}
use Rattle.movie.proofs.table.Goals as goal

pub returns : goal.returns
returns c = table_is _ c.payload-mdia.ensures _ c.payload-minf.ensures c.payload-stbl.ensures c.payload.ensures
