use Rattle.std.proofs.lemmas.Result.{err_from_is_err_and}
use Rattle.md_answer.proofs.OddsSteps.{odds-read, odds-fail}
use Rattle.md_answer.proofs.interim_records.read_list.Goals as goal

pub returns-in_err-numbers : goal.returns-in_err-numbers
returns-in_err-numbers c =
    let p = err_from_is_err_and c.from_residual-in_err-numbers.result c.from_residual-in_err-numbers.ensures.1 in
    rw (p.1, p.2) (λ ne. odds-fail c.args.auction.now c.kinds-kinds.result c.args.den c.args.reader.now c.next.new.self c.in_ok-fields.fields _ c.kinds-kinds.ensures.count c.in_ok-fields.ensures (c.in_err-numbers.ensures ne))

pub returns : goal.returns
returns c =
    let (numbers, reads, items, adds) = c.in_ok-numbers.ensures in
    rw (items, c.new-odds.ensures) (odds-read c.args.auction.now c.kinds-kinds.result c.args.den c.args.reader.now c.next.new.self c.in_ok-fields.fields c.numbers.new.self numbers c.kinds-kinds.ensures.count c.in_ok-fields.ensures reads)
