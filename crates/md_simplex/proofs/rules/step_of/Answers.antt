use Rattle.md_dict.specs.Condensed.{entry_at}
use Rattle.md_simplex.proofs.NextLaws.{entering_face, entering_main}
use Rattle.md_simplex.proofs.rules.step_of.Goals as goal

pub returns-in-Some : goal.returns-in-Some
returns-in-Some c = c.step_at.ensures c.args.order (entering_face c.args.order c.args.dict.now.rows c.args.dict.now.columns (entry_at c.args.dict.now) c.in-Some.column c.in-Some.ensures)

pub returns-in-Some-main_column : goal.returns-in-Some-main_column
returns-in-Some-main_column c = c.step_at-in-Some-main_column.ensures c.args.order (entering_main c.args.order c.args.dict.now.rows c.args.dict.now.columns (entry_at c.args.dict.now) c.in-Some-main_column.column c.in_default.ensures (λ k. (let clash = c.if-is_right_negative.ensures.1 k in cc)) c.in-Some-main_column.ensures)
