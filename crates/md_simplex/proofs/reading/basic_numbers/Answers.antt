use Rattle.std.proofs.Common.{◌≡◌, ◌∙◌, ◌<◌, ◌^◌, subst, arith}
use Rattle.md_math.specs.Lists.{number_at}
use Rattle.md_math.proofs.Bits.{read_result}
use Rattle.md_dict.specs.Condensed.{basic_at, entry_at}
use Rattle.md_simplex.specs.Reading.{IsAtBasis}
use Rattle.md_simplex.specs.ReadingSteps.{IsPut, basic_number_at}
use Rattle.md_simplex.proofs.ReadSteps.{basic_at-apart, IsAtBasis-more, AllWithin-put}
use Rattle.md_simplex.proofs.reading.basic_numbers.Goals as goal

pub loop-row-preserved : goal.loop-row-preserved
loop-row-preserved c =
    let d = c.args.dict.now in
    let row = c.loop-row.row in
    let v = basic_number_at d.rows d.columns (entry_at d) c.args.along in
    let inside : row < d.rows = (let e : c.rows-rows.result ≡ d.rows = c.rows-rows.ensures.value in let l : row < c.rows-rows.result = c.loop-row-test.true in omega arith) in
    let number : c.basic_number-number.result ≡ v row = c.basic_number-number.ensures.value in
    let put = rw (read_result c.basic_number-number.result c.basic_number-number.type_inv) at c.put.ensures in
    let whole : IsPut (basic_at d row) (v row) c.loop-row.numbers.items c.put.new.numbers.items =
    subst (λ z. IsPut (basic_at d row) z c.loop-row.numbers.items c.put.new.numbers.items) number
    (subst (λ j. IsPut j c.basic_number-number.result c.loop-row.numbers.items c.put.new.numbers.items) c.basic.ensures.value put) in
    record {
      value = IsAtBasis-more c.args.columns row (basic_at d) v c.loop-row.numbers.items c.put.new.numbers.items c.loop-row.invariant.long (λ r l. basic_at-apart d r row c.rows-rows.ensures.shape (omega arith) inside (λ e. omega arith)) c.loop-row.invariant.value whole;
      long = whole.same_length ∙ c.loop-row.invariant.long;
      small = AllWithin-put (2 ^ 62) c.basic.result c.basic_number-number.result c.loop-row.numbers.items c.put.new.numbers.items c.loop-row.invariant.small c.basic_number-number.ensures.size put;
    }

pub returns-clause-value : goal.returns-clause-value
returns-clause-value c =
    let d = c.args.dict.now in
    let v = basic_number_at d.rows d.columns (entry_at d) c.args.along in
    let count : c.loop-row.row ≡ d.rows = (let e : c.rows-rows.result ≡ d.rows = c.rows-rows.ensures.value in omega (arith, c.loop-row-test.false, c.loop-row.auto.row-end)) in
    subst (λ n. IsAtBasis c.args.columns n (basic_at d) v (number_at c.loop-row.numbers.items)) count c.loop-row.invariant.value
