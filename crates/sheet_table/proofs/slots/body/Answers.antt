use Rattle.sheet_table.proofs.slots.body.Goals as goal

pub returns : goal.returns
returns c = cc
