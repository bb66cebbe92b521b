use Rattle.md_reduced.proofs.names.name.Goals as goal

pub returns-in-Cut : goal.returns-in-Cut
returns-in-Cut c = rw c.in-Cut.is c.cut_name.ensures
