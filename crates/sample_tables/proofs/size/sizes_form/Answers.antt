use Rattle.sample_tables.proofs.size.sizes_form.Goals as goal

pub returns : goal.returns
returns c = rw c.listed.ensures.0 at c.has_form.ensures
