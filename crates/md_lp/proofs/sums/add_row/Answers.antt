use Rattle.std.proofs.Common.{arith}
use Rattle.md_math.specs.Lists.{number_at}
use Rattle.md_lp.specs.Stored.{shown_terms}
use Rattle.md_lp.proofs.StoredTerms.{length-shown}
use Rattle.md_lp.proofs.RowRuns.{AddsRow-from, AddsRow-no_weight, StartsFrom-ascending, StartsFrom-above, StartsFrom-values}
use Rattle.md_lp.proofs.sums.add_row.Goals as goal

pub returns : goal.returns
returns c = AddsRow-from (shown_terms c.args.terms.now) (shown_terms c.from_column.result.now) c.args.first (number_at c.args.weights.now c.args.row) c.args.sums.now c.add_terms.new.sums c.from_column.ensures c.add_terms.ensures

pub add_terms-requires-clause-ascending : goal.add_terms-requires-clause-ascending
add_terms-requires-clause-ascending c = StartsFrom-ascending (shown_terms c.args.terms.now) (shown_terms c.from_column.result.now) c.args.first c.from_column.ensures c.requires.ascending

pub add_terms-requires-clause-from : goal.add_terms-requires-clause-from
add_terms-requires-clause-from c = λ k b. StartsFrom-above (shown_terms c.args.terms.now) (shown_terms c.from_column.result.now) c.args.first c.from_column.ensures k (omega (arith, length-shown c.from_column.result.now))

pub add_terms-requires-clause-values : goal.add_terms-requires-clause-values
add_terms-requires-clause-values c = StartsFrom-values (shown_terms c.args.terms.now) (shown_terms c.from_column.result.now) c.args.first c.from_column.ensures c.requires.values

pub returns-then-weights-row-eq0 : goal.returns-then-weights-row-eq0
returns-then-weights-row-eq0 c = AddsRow-no_weight (shown_terms c.args.terms.now) c.args.first (number_at c.args.weights.now c.args.row) c.args.sums.now c.requires.weight c.if-weights-row-eq0.true
