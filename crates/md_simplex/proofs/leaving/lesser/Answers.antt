use Rattle.md_dict.specs.Condensed.{entry_at}
use Rattle.md_simplex.proofs.BestLaws.{best_kept, best_replaced}
use Rattle.md_simplex.proofs.leaving.lesser.Goals as goal

pub returns-then-is_less : goal.returns-then-is_less
returns-then-is_less c = (c.requires.rival, best_replaced c.args.dict.now.rows c.args.dict.now.columns (entry_at c.args.dict.now) c.args.rival.column c.args.rival.row c.args.best.row c.requires.best.1 (rw c.requires.rival.entry_is at c.requires.positive) c.if-is_less.ensures)

pub returns-else-is_less : goal.returns-else-is_less
returns-else-is_less c = (c.requires.best.0, best_kept c.args.dict.now.rows c.args.dict.now.columns (entry_at c.args.dict.now) c.args.rival.column c.args.rival.row c.args.best.row c.requires.best.1 c.if-is_less.ensures)
