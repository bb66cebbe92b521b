use Rattle.md_simplex.proofs.ReadSteps.{entry_small, entry_back}
use Rattle.md_simplex.proofs.reading.basic_number.Goals as goal

pub negated-requires : goal.negated-requires
negated-requires c =
    let d = c.args.dict.now in
    rw (entry_back d c.entry-in-Some.result c.rows.ensures.shape c.entry-in-Some.ensures.size) (entry_small d c.entry-in-Some.result c.rows.ensures.shape c.entry-in-Some.ensures.size)

pub returns-in-None-clause-size : goal.returns-in-None-clause-size
returns-in-None-clause-size c =
    let d = c.args.dict.now in
    rw (entry_back d c.entry.result c.rows.ensures.shape c.entry.ensures.size) (entry_small d c.entry.result c.rows.ensures.shape c.entry.ensures.size)
