use Rattle.std.proofs.lemmas.Result.{err_from_is_err_and}
use Rattle.md_tree.proofs.RecordsRead.{rank-read, rank-fails}
use Rattle.md_tree.proofs.node_reading.read_rank.Goals as goal

pub returns-in_err-rank-clause-read : goal.returns-in_err-rank-clause-read
returns-in_err-rank-clause-read c =
    let p = err_from_is_err_and c.from_residual-in_err-rank.result c.from_residual-in_err-rank.ensures.1 in
    rw (p.1, p.2) (λ _. rank-fails c.args.profiles c.from.result c.args.reader.now c.next.new.self c.in_ok-fields.fields _ c.from.ensures c.in_ok-fields.ensures c.in_err-rank.ensures.read)

pub returns-clause-read : goal.returns-clause-read
returns-clause-read c =
    rank-read c.args.profiles c.from.result c.args.reader.now c.next.new.self c.in_ok-fields.fields c.place.new.self c.in_ok-rank.rank c.from.ensures c.in_ok-fields.ensures c.in_ok-rank.ensures.read
