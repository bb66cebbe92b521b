use Rattle.std.proofs.Common.{◌<◌, arith}
use Rattle.md_math.proofs.Bits.{read_result}
use Rattle.md_replay.proofs.StandingLaws.{can_pivot_of}
use Rattle.md_replay.proofs.standing.can_pivot.Goals as goal

pub returns-then-pivot-columns : goal.returns-then-pivot-columns
returns-then-pivot-columns c =
    let row : c.args.pivot.row < c.args.dict.now.rows = omega arith in
    let column : c.args.pivot.column < c.args.dict.now.columns = omega arith in
    can_pivot_of c.args.dict.now c.args.pivot c.entry.result c.entry.ensures.value row column c.is_positive.result
    (rw (read_result c.entry.result c.entry.type_inv) at c.is_positive.ensures)
