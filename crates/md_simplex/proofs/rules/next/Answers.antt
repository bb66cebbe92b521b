use Rattle.md_dict.specs.Condensed.{basic_at, entry_at}
use Rattle.md_dict.specs.FirstTable.{first_entry}
use Rattle.md_simplex.proofs.OneNext.{one_next}
use Rattle.md_simplex.proofs.rules.next.Goals as goal

pub returns-clause-only : goal.returns-clause-only
returns-clause-only c =
    λ p step holds h.
    one_next c.args.order c.args.dict.now.rows c.args.dict.now.columns (first_entry p) (basic_at c.args.dict.now) step c.step_of.result h
    (record { den = c.args.dict.now.den; table = entry_at c.args.dict.now; dictionary = holds.dictionary; next = c.step_of.ensures })
