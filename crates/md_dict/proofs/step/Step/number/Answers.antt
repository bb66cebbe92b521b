use Rattle.std.proofs.Common.{sym, ◌∙◌}
use Rattle.md_math.proofs.Bits.{read_result}
use Rattle.md_dict.proofs.RowNumbers.{number_inside, shared_size}
use Rattle.md_dict.proofs.RowSteps.{number_in-rows}
use Rattle.md_dict.proofs.step.Step.number.Goals as goal

pub number-requires-clause-inside : goal.number-requires-clause-inside
number-requires-clause-inside c = number_inside c.args.self.now c.args.rows.now c.args.row c.args.place c.requires.table c.requires.row c.requires.place

pub returns-clause-value : goal.returns-clause-value
returns-clause-value c =
    read_result c.number.result c.number.type_inv
    ∙ c.number.ensures.value
    ∙ sym (number_in-rows c.args.self.now c.args.rows.now c.args.row c.args.place c.requires.table c.requires.row c.requires.place)

pub returns-clause-size : goal.returns-clause-size
returns-clause-size c =
    rw (read_result c.number.result c.number.type_inv, c.number.ensures.value)
    (shared_size c.args.self.now c.args.rows.now c.args.row c.args.place c.requires.table c.requires.row c.requires.place)
