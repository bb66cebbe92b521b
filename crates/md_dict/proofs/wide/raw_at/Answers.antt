use Rattle.std.proofs.Common.{◌≡◌, ◌+◌, ◌<◌, ◌≤◌, ◌^◌, ◌*ℤ◌, unsigned_abs, sym, ◌∙◌, ap, arith}
use Rattle.md_math.proofs.Bits.{read_result}
use Rattle.md_dict.specs.Step.{raw_number, seat_after}
use Rattle.md_dict.specs.RowStep.{kept_in}
use Rattle.md_dict_division.proofs.Reading.{read_small, product_small}
use Rattle.md_dict.proofs.Change.{raw_at-basic, raw_at-kept, raw_at-right}
use Rattle.md_dict.proofs.wide.raw_at.Goals as goal
use Rattle.md_dict.proofs.wide.raw_at.Goals.{After-basic_number}

den_is : (c : After-basic_number) → c.product-den.result ≡ c.args.step.now.den *ℤ c.args.step.now.pivot
den_is c = rw (read_small c.args.step.now.den c.requires.step.pivot.table.den_size, read_small c.args.step.now.pivot c.requires.step.pivot.table.pivot_size) at c.product-den.ensures.value

pub returns-then-column-step-clause-value : goal.returns-then-column-step-clause-value
returns-then-column-step-clause-value c =
    let above : c.args.step.now.columns + c.args.step.now.rows ≤ c.args.column = omega arith in
    read_result c.raw_number.result c.raw_number.type_inv
    ∙ c.raw_number.ensures.value
    ∙ sym (raw_at-right c.args.step.now (kept_in c.args.step.now c.args.rows.now) c.args.seat.now c.args.row c.args.column above)

pub returns-then-place-step-clause-value : goal.returns-then-place-step-clause-value
returns-then-place-step-clause-value c =
    let below : seat_after c.args.step.now c.args.seat.now c.args.column < c.args.step.now.columns = omega arith in
    read_result c.raw_number-then-place-step.result c.raw_number-then-place-step.type_inv
    ∙ c.raw_number-then-place-step.ensures.value
    ∙ ap (raw_number c.args.step.now (kept_in c.args.step.now c.args.rows.now) c.args.row) c.seat_after-place.ensures.value
    ∙ sym (raw_at-kept c.args.step.now (kept_in c.args.step.now c.args.rows.now) c.args.seat.now c.args.row c.args.column c.if-column-step.false below)

pub basic_number-requires : goal.basic_number-requires
basic_number-requires c =
    rw (read_result c.product-den.result c.product-den.type_inv, rw (read_small c.args.step.now.den c.requires.step.pivot.table.den_size, read_small c.args.step.now.pivot c.requires.step.pivot.table.pivot_size) at c.product-den.ensures.value)
    (product_small c.args.step.now.den c.args.step.now.pivot c.requires.step.pivot.table.den_size c.requires.step.pivot.table.pivot_size)

pub returns-else-place-step-clause-value : goal.returns-else-place-step-clause-value
returns-else-place-step-clause-value c =
    let above : c.args.step.now.columns ≤ seat_after c.args.step.now c.args.seat.now c.args.column = omega arith in
    rw (read_result c.basic_number.result c.basic_number.type_inv, raw_at-basic c.args.step.now (kept_in c.args.step.now c.args.rows.now) c.args.seat.now c.args.row c.args.column c.if-column-step.false above)
    (rw (read_result c.product-den.result c.product-den.type_inv, den_is c, c.seat_after-place.ensures.value) at c.basic_number.ensures.value)

pub returns-else-place-step-clause-size : goal.returns-else-place-step-clause-size
returns-else-place-step-clause-size c =
    let small : unsigned_abs (c.args.step.now.den *ℤ c.args.step.now.pivot) < 2 ^ 126 = product_small c.args.step.now.den c.args.step.now.pivot c.requires.step.pivot.table.den_size c.requires.step.pivot.table.pivot_size in
    let size = rw (read_result c.product-den.result c.product-den.type_inv, den_is c) at c.basic_number.ensures.size in
    rw (read_result c.basic_number.result c.basic_number.type_inv) (omega arith)
