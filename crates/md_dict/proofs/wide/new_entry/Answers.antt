use Rattle.md_math.proofs.Bits.{read_result}
use Rattle.md_dict.specs.RowStep.{kept_in}
use Rattle.md_dict.proofs.Change.{Divides-raw_at}
use Rattle.md_dict_rows.proofs.Quotients.{quotient_is}
use Rattle.md_dict.proofs.wide.new_entry.Goals as goal

pub quotient-requires-clause-exact : goal.quotient-requires-clause-exact
quotient-requires-clause-exact c =
    rw (c.requires.divider, read_result c.raw_at.result c.raw_at.type_inv, c.raw_at.ensures.value)
    (Divides-raw_at c.args.step.now (kept_in c.args.step.now c.args.rows.now) c.args.seat.now c.args.step.now.divisor c.args.row c.args.column c.requires.divisor c.requires.row)

pub returns : goal.returns
returns c =
    rw (read_result c.quotient.result c.quotient.type_inv)
    (quotient_is c.args.step.now.divisor _ c.quotient.result c.requires.divisor.positive
    (Divides-raw_at c.args.step.now (kept_in c.args.step.now c.args.rows.now) c.args.seat.now c.args.step.now.divisor c.args.row c.args.column c.requires.divisor c.requires.row)
    (rw (c.requires.divider, read_result c.raw_at.result c.raw_at.type_inv, c.raw_at.ensures.value) at c.quotient.ensures))
