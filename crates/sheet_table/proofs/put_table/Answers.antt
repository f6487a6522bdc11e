use Rattle.sheet_table.proofs.Answering.{table_put}
use Rattle.sheet_table.proofs.put_table.Goals as goal

pub returns : goal.returns
returns c = table_put _ c.requires.2 c.requires.3 c.put_number-a.ensures.0 c.put_number-b.ensures.0 c.put_number-c.ensures.0 c.put_number-d.ensures.0 c.put_own.ensures.0
