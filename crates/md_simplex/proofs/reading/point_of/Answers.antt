use Rattle.std.proofs.Common.{◌≡◌}
use Rattle.std.proofs.lemmas.Result.{IfOk-weaker}
use Rattle.md_simplex.proofs.ReadSteps.{entry_small, entry_back}
use Rattle.md_simplex.proofs.ReadDictionary.{point_read}
use Rattle.md_simplex.proofs.reading.point_of.Goals as goal

pub reduced_over-requires-clause-den : goal.reduced_over-requires-clause-den
reduced_over-requires-clause-den c =
    let d = c.args.dict.now in
    rw (entry_back d c.den.result c.basic_numbers.ensures.shape c.den.ensures.size) (entry_small d c.den.result c.basic_numbers.ensures.shape c.den.ensures.size)

pub returns-clause-point : goal.returns-clause-point
returns-clause-point c =
    let p = c.args.lp.now in
    let d = c.args.dict.now in
    let numbers = c.in_ok-numbers.numbers.items in
    let value = rw c.columns.ensures.value at c.in_ok-numbers.ensures.value in
    let long = rw c.columns.ensures.value at c.in_ok-numbers.ensures.length in
    let slice : c.as_slice.result.now ≡ numbers = c.as_slice.ensures.value in
    let given = rw (slice, entry_back d c.den.result c.basic_numbers.ensures.shape c.den.ensures.size, c.den.ensures.value) at c.reduced_over.ensures in
    IfOk-weaker c.reduced_over.result _ _
    (λ point h. point_read p d c.requires numbers point.numbers point.den long value h) given
