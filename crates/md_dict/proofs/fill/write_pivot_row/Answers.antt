use Rattle.std.proofs.Common.{◌∙◌, refl, sym, arith}
use Rattle.md_dict_division.proofs.Reading.{read_short}
use Rattle.md_dict.proofs.Writing.{IsTable-set}
use Rattle.md_dict.proofs.NewNumbers.{Leaves-more}
use Rattle.md_dict.proofs.OldRows.{read_den, read_factor}
use Rattle.md_dict.proofs.Filling.{den_within, number_in-own, IsMadeRow-pivot}
use Rattle.md_dict.proofs.RowSteps.{pivot_row_in}
use Rattle.md_dict.proofs.fill.write_pivot_row.Goals as goal

pub row_size-requires-clause-numbers : goal.row_size-requires-clause-numbers
row_size-requires-clause-numbers c =
    let (rows, h, o) = c.requires.old in
    let den = read_den c.args.step.now rows c.args.old.now c.args.step.now.row h in
    rw (den.short, den.value) (IsTable-set c.args.step.now c.args.numbers.now _ _ c.requires.table (den_within c.args.step.now rows c.args.step.now.row h.step_is (pivot_row_in c.args.step.now rows h.step_is))).kept_size

pub returns-clause-made : goal.returns-clause-made
returns-clause-made c = λ rows h o.
    let row_in = pivot_row_in c.args.step.now rows h.step_is in
    let den = read_den c.args.step.now rows c.args.old.now c.args.step.now.row h in
    let factor = read_factor c.args.step.now rows c.args.old.now c.args.step.now.row h row_in in
    let size = rw (den.short, den.value) at c.row_size.ensures in
    rw (factor.short, read_short c.row_size.result size.small, den.short, den.value)
    (IsMadeRow-pivot c.args.step.now rows c.args.numbers.now _ c.row_size.result h.step_is c.requires.table (λ s b. o.at c.args.step.now.row s (omega arith) row_in b ∙ sym (number_in-own c.args.step.now rows c.args.step.now.row s h.step_is)) factor.value size)

pub returns-clause-leaves : goal.returns-clause-leaves
returns-clause-leaves c = Leaves-more c.args.step.now c.args.step.now.row c.args.step.now.place c.args.numbers.now c.args.numbers.now _ (record { others = λ k s o b. refl }) (omega (arith, c.requires.table.place_in))

pub returns-clause-table : goal.returns-clause-table
returns-clause-table c =
    let (rows, h, o) = c.requires.old in
    let den = read_den c.args.step.now rows c.args.old.now c.args.step.now.row h in
    rw (den.short, den.value) (IsTable-set c.args.step.now c.args.numbers.now _ _ c.requires.table (den_within c.args.step.now rows c.args.step.now.row h.step_is (pivot_row_in c.args.step.now rows h.step_is)))
