use Rattle.std.proofs.Common.{◌≡◌, sym, ap, ◌∙◌, arith}
use Rattle.md_math.specs.Lists.{number_at}
use Rattle.md_math.specs.Sums.{dot}
use Rattle.md_math.proofs.Bits.{read_result}
use Rattle.md_lp.specs.Program.{value_of}
use Rattle.md_lp.specs.Point.{row_sum}
use Rattle.md_lp.specs.Stored.{shown_terms}
use Rattle.md_lp.proofs.SparseRows.{All-below, dot-value_of}
use Rattle.md_lp.proofs.ColumnRuns.{row_sum-within}
use Rattle.md_lp.proofs.lp.Lp.row_sum.Goals as goal

-- the sum over the terms is the sum over the columns
value_is : (c : goal.After-sum_of_terms) → c.sum_of_terms.result ≡ row_sum c.args.self.now (number_at c.args.numbers.now) c.args.row
value_is c =
    c.sum_of_terms.ensures
    ∙ sym (dot-value_of c.args.self.now.columns (shown_terms c.terms.result.now) (number_at c.args.numbers.now) (All-below c.args.self.now.columns (shown_terms c.terms.result.now) c.terms.ensures.places))
    ∙ ap (λ terms. dot c.args.self.now.columns (value_of terms) (number_at c.args.numbers.now)) c.terms.ensures.value

pub sum_of_terms-requires-clause-few : goal.sum_of_terms-requires-clause-few
sum_of_terms-requires-clause-few c = (let few = c.terms.ensures.shaped.columns in omega (arith, c.requires.one_each))

pub returns-clause-value : goal.returns-clause-value
returns-clause-value c = read_result c.sum_of_terms.result c.sum_of_terms.type_inv ∙ value_is c

pub returns-clause-size : goal.returns-clause-size
returns-clause-size c =
    rw (read_result c.sum_of_terms.result c.sum_of_terms.type_inv, value_is c)
    (row_sum-within c.args.self.now c.args.numbers.now c.args.row c.terms.ensures.shaped c.requires.sizes c.requires.row)
