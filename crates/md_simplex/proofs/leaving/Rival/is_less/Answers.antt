use Rattle.std.proofs.Common.{◌+◌, ◌≡◌, pos, below_more, arith}
use Rattle.md_dict.specs.Condensed.{entry_at}
use Rattle.md_simplex.specs.Rules.{gap}
use Rattle.md_simplex.proofs.BestLaws.{lex_negative_at, lex_positive_at}
use Rattle.md_simplex.proofs.leaving.Rival.is_less.Goals as goal

pub returns-in-Negative : goal.returns-in-Negative
returns-in-Negative c = lex_negative_at (c.args.dict.now.rows + 1) c.loop-place.place (gap c.args.dict.now.rows c.args.dict.now.columns (entry_at c.args.dict.now) c.args.self.now.column c.args.self.now.row c.args.other.now.row) (omega (arith, c.loop-place-test.true, c.rows-place-end.ensures.value)) c.loop-place.invariant c.in-Negative.ensures

pub returns-in-Positive : goal.returns-in-Positive
returns-in-Positive c = lex_positive_at (c.args.dict.now.rows + 1) c.loop-place.place (gap c.args.dict.now.rows c.args.dict.now.columns (entry_at c.args.dict.now) c.args.self.now.column c.args.self.now.row c.args.other.now.row) (omega (arith, c.loop-place-test.true, c.rows-place-end.ensures.value)) c.loop-place.invariant c.in-Positive.ensures

pub loop-place-preserved : goal.loop-place-preserved
loop-place-preserved c = below_more (λ k. gap c.args.dict.now.rows c.args.dict.now.columns (entry_at c.args.dict.now) c.args.self.now.column c.args.self.now.row c.args.other.now.row k ≡ pos 0) c.loop-place.place c.loop-place.invariant c.in-Zero.ensures
