use Rattle.sheet_table.proofs.slots.past.Goals as goal

pub returns : goal.returns
returns c = cc
