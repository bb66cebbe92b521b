use Rattle.std.proofs.Common.{◌≡◌, ◌+◌, ◌-◌, ◌*◌, ◌≤◌, length, ◌∙◌, arith}
use Rattle.md_math.proofs.SizeLaws.{AllWithin-number_at}
use Rattle.md_dict.proofs.OldRows.{read_size}
use Rattle.md_dict.proofs.Parts.{AllWithin-part, end_inside, length_part, Leaves-part, IsTable-part}
use Rattle.md_dict.proofs.Filling.{combination_of, made_combined, row_within, wide_combined}
use Rattle.md_dict.proofs.LeastRows.{AreLeastRows-of}
use Rattle.md_dict.proofs.RowSteps.{pivot_row_in}
use Rattle.md_dict.proofs.TurningBack.{turned_combined}
use Rattle.md_dict.proofs.fill.combine.Goals as goal

pub reduce-requires-clause-combination : goal.reduce-requires-clause-combination
reduce-requires-clause-combination c =
    let (rows, h, o) = c.requires.old in
    combination_of c.args.step.now rows c.args.row c.lowest_combination-combination.result c.args.own.now c.args.old.now.pivot_row.now h.step_is c.requires.row (c.lowest_combination-combination.ensures rows h) o h.pivot_row

pub reduce-requires-clause-rows : goal.reduce-requires-clause-rows
reduce-requires-clause-rows c =
    let (rows, h, o) = c.requires.old in
    AreLeastRows-of c.args.step.now rows c.args.row c.lowest_combination-combination.result c.args.own.now c.args.old.now.pivot_row.now h.step_is c.requires.row (c.lowest_combination-combination.ensures rows h) o h.pivot_row

pub reduce-requires-clause-own_size : goal.reduce-requires-clause-own_size
reduce-requires-clause-own_size c =
    let (rows, h, o) = c.requires.old in
    rw (c.size.ensures, (read_size c.args.step.now rows c.args.old.now c.args.row h c.requires.row).value) (row_within c.args.step.now rows c.args.row c.args.own.now h.step_is c.requires.row o)

pub reduce-requires-clause-taken_size : goal.reduce-requires-clause-taken_size
reduce-requires-clause-taken_size c =
    let (rows, h, o) = c.requires.old in
    let row_in = pivot_row_in c.args.step.now rows h.step_is in
    rw (c.size-2.ensures, (read_size c.args.step.now rows c.args.old.now c.args.step.now.row h row_in).value) (row_within c.args.step.now rows c.args.step.now.row c.args.old.now.pivot_row.now h.step_is row_in h.pivot_row)

pub reduce-requires-clause-zeros : goal.reduce-requires-clause-zeros
reduce-requires-clause-zeros c =
    let (rows, h, o) = c.requires.old in
    rw (o.long ∙ h.step_is.width) h.zeros

pub reduce-requires-clause-length : goal.reduce-requires-clause-length
reduce-requires-clause-length c =
    let (rows, h, o) = c.requires.old in
    let w = c.args.step.now.columns + 1 in
    let inside : c.args.row * w + w ≤ length c.args.numbers.now = omega (arith, end_inside w c.args.row w (c.args.step.now.rows + 2) c.requires.row (omega arith), c.requires.table.kept_length) in
    let part = length_part c.args.numbers.now (c.args.row * w) (c.args.row * w + c.args.step.now.columns + 1) (omega arith) (omega (arith, inside)) in
    omega (arith, part, o.long, h.step_is.width)

pub reduce-requires-clause-fresh : goal.reduce-requires-clause-fresh
reduce-requires-clause-fresh c =
    let w = c.args.step.now.columns + 1 in
    AllWithin-part c.args.step.now.limit c.args.numbers.now (c.args.row * w) (c.args.row * w + c.args.step.now.columns + 1) (omega arith) (omega (arith, end_inside w c.args.row w (c.args.step.now.rows + 2) c.requires.row (omega arith), c.requires.table.kept_length)) (λ k _. AllWithin-number_at c.args.step.now.limit c.args.numbers.now (c.args.row * w + k) c.requires.table.kept_limit)

pub returns-clause-made : goal.returns-clause-made
returns-clause-made c = λ rows h o.
    let w = c.args.step.now.columns + 1 in
    let inside : c.args.row * w + w ≤ length c.args.numbers.now = omega (arith, end_inside w c.args.row w (c.args.step.now.rows + 2) c.requires.row (omega arith), c.requires.table.kept_length) in
    let long : length c.reduce.new.fresh ≡ w = c.reduce.ensures.length ∙ length_part c.args.numbers.now (c.args.row * w) (c.args.row * w + c.args.step.now.columns + 1) (omega arith) (omega (arith, inside)) ∙ (let same : c.args.row * w + c.args.step.now.columns + 1 - c.args.row * w ≡ w = omega arith in same) in
    made_combined c.args.step.now rows c.args.row c.lowest_combination-combination.result c.args.own.now c.args.old.now.pivot_row.now c.args.numbers.now c.reduce.new.fresh _ c.reduce.result h.step_is c.requires.row (c.lowest_combination-combination.ensures rows h) o h.pivot_row c.requires.table long c.reduce.ensures.row

pub returns-clause-back : goal.returns-clause-back
returns-clause-back c = λ rows h o.
    let w = c.args.step.now.columns + 1 in
    let inside : c.args.row * w + w ≤ length c.args.numbers.now = omega (arith, end_inside w c.args.row w (c.args.step.now.rows + 2) c.requires.row (omega arith), c.requires.table.kept_length) in
    let long : length c.reduce.new.fresh ≡ w = c.reduce.ensures.length ∙ length_part c.args.numbers.now (c.args.row * w) (c.args.row * w + c.args.step.now.columns + 1) (omega arith) (omega (arith, inside)) ∙ (let same : c.args.row * w + c.args.step.now.columns + 1 - c.args.row * w ≡ w = omega arith in same) in
    turned_combined c.args.step.now rows c.args.row c.lowest_combination-combination.result c.args.own.now c.args.old.now.pivot_row.now c.args.numbers.now c.reduce.new.fresh _ c.reduce.result h.step_is c.requires.row (c.lowest_combination-combination.ensures rows h) o h.pivot_row c.requires.table long c.reduce.ensures.row

pub returns-clause-wide : goal.returns-clause-wide
returns-clause-wide c = λ rows h o. wide_combined c.args.step.now rows c.args.row c.lowest_combination-combination.result c.args.own.now c.args.old.now.pivot_row.now c.reduce.result h.step_is c.requires.row (c.lowest_combination-combination.ensures rows h) o h.pivot_row c.reduce.ensures.wide

pub returns-clause-leaves : goal.returns-clause-leaves
returns-clause-leaves c =
    let w = c.args.step.now.columns + 1 in
    let inside : c.args.row * w + w ≤ length c.args.numbers.now = omega (arith, end_inside w c.args.row w (c.args.step.now.rows + 2) c.requires.row (omega arith), c.requires.table.kept_length) in
    let long : length c.reduce.new.fresh ≡ c.args.row * w + c.args.step.now.columns + 1 - c.args.row * w = c.reduce.ensures.length ∙ length_part c.args.numbers.now (c.args.row * w) (c.args.row * w + c.args.step.now.columns + 1) (omega arith) (omega (arith, inside)) in
    Leaves-part c.args.step.now c.args.row (c.args.row * w) (c.args.row * w + c.args.step.now.columns + 1 - c.args.row * w) c.args.numbers.now c.reduce.new.fresh (omega arith) (omega arith) (omega (arith, inside)) long

pub returns-clause-table : goal.returns-clause-table
returns-clause-table c =
    let w = c.args.step.now.columns + 1 in
    let inside : c.args.row * w + w ≤ length c.args.numbers.now = omega (arith, end_inside w c.args.row w (c.args.step.now.rows + 2) c.requires.row (omega arith), c.requires.table.kept_length) in
    let long : length c.reduce.new.fresh ≡ c.args.row * w + c.args.step.now.columns + 1 - c.args.row * w = c.reduce.ensures.length ∙ length_part c.args.numbers.now (c.args.row * w) (c.args.row * w + c.args.step.now.columns + 1) (omega arith) (omega (arith, inside)) in
    IsTable-part c.args.step.now c.args.numbers.now c.reduce.new.fresh (c.args.row * w) (c.args.row * w + c.args.step.now.columns + 1 - c.args.row * w) (omega (arith, inside)) long c.reduce.ensures.fresh c.requires.table

pub slice_bounds-fresh-end : goal.slice_bounds-fresh-end
slice_bounds-fresh-end c =
    let w = c.args.step.now.columns + 1 in
    let inside : c.args.row * w + c.args.step.now.columns + 1 ≤ length c.args.numbers.now = omega (arith, end_inside w c.args.row w (c.args.step.now.rows + 2) c.requires.row (omega arith), c.requires.table.kept_length) in
    inside
