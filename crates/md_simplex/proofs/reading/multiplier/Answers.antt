use Rattle.md_simplex.proofs.ReadSteps.{entry_small, entry_back}
use Rattle.md_simplex.proofs.reading.multiplier.Goals as goal

pub signed-requires-clause-size : goal.signed-requires-clause-size
signed-requires-clause-size c =
    let d = c.args.dict.now in
    rw (entry_back d c.entry.result c.columns.ensures.shape c.entry.ensures.size) (entry_small d c.entry.result c.columns.ensures.shape c.entry.ensures.size)
