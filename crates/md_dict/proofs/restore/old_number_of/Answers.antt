use Rattle.std.proofs.Common.{◌≡◌, ◌^◌, refl, sym, subst}
use Rattle.md_math.specs.Sizes.{IsWithin}
use Rattle.md_dict.specs.Rows.{own_number}
use Rattle.md_dict_division.proofs.Reading.{read_short, read_wide}
use Rattle.md_dict.proofs.OldRows.{own_within, pivot_number, read_factor}
use Rattle.md_dict.proofs.RowSteps.{pivot_own_positive, pivot_row_in}
use Rattle.md_dict.proofs.restore.old_number_of.Goals as goal

pub undone-requires-clause-own : goal.undone-requires-clause-own
undone-requires-clause-own c =
    let (rows, h, e) = c.requires.old in
    let pivot = read_factor c.args.step.now rows c.args.old.now c.args.step.now.row h (pivot_row_in c.args.step.now rows h.step_is) in
    let factor = read_factor c.args.step.now rows c.args.old.now c.args.row h c.requires.row in
    let taken = pivot_number c.args.step.now rows c.args.old.now c.args.place h c.requires.place in
    rw (read_wide c.args.divisor c.requires.divisor, read_short c.args.number c.requires.number, pivot.short, factor.short, taken.short, pivot.value, factor.value, taken.value)
    (own_number rows c.args.row c.args.place, own_within c.args.step.now rows c.args.old.now c.args.row c.args.place h, e c.if-place-step.false)

pub undone-requires-clause-pivot : goal.undone-requires-clause-pivot
undone-requires-clause-pivot c =
    let (rows, h, e) = c.requires.old in
    let pivot = read_factor c.args.step.now rows c.args.old.now c.args.step.now.row h (pivot_row_in c.args.step.now rows h.step_is) in
    rw pivot.short pivot.size

pub undone-requires-clause-positive : goal.undone-requires-clause-positive
undone-requires-clause-positive c =
    let (rows, h, e) = c.requires.old in
    let pivot = read_factor c.args.step.now rows c.args.old.now c.args.step.now.row h (pivot_row_in c.args.step.now rows h.step_is) in
    rw (pivot.short, pivot.value) (pivot_own_positive c.args.step.now rows h.step_is)

pub undone-requires-clause-factor : goal.undone-requires-clause-factor
undone-requires-clause-factor c =
    let (rows, h, e) = c.requires.old in
    let factor = read_factor c.args.step.now rows c.args.old.now c.args.row h c.requires.row in
    rw factor.short factor.size

pub undone-requires-clause-taken : goal.undone-requires-clause-taken
undone-requires-clause-taken c =
    let (rows, h, e) = c.requires.old in
    let taken = pivot_number c.args.step.now rows c.args.old.now c.args.place h c.requires.place in
    rw taken.short taken.size

pub returns-then-place-step : goal.returns-then-place-step
returns-then-place-step c = λ rows h e.
    let factor = read_factor c.args.step.now rows c.args.old.now c.args.row h c.requires.row in
    rw (factor.short, factor.value, c.if-place-step.true) refl

pub returns-else-place-step : goal.returns-else-place-step
returns-else-place-step c = λ rows h e.
    let pivot = read_factor c.args.step.now rows c.args.old.now c.args.step.now.row h (pivot_row_in c.args.step.now rows h.step_is) in
    let factor = read_factor c.args.step.now rows c.args.old.now c.args.row h c.requires.row in
    let taken = pivot_number c.args.step.now rows c.args.old.now c.args.place h c.requires.place in
    let told = rw (read_wide c.args.divisor c.requires.divisor, read_short c.args.number c.requires.number, pivot.short, factor.short, taken.short, pivot.value, factor.value, taken.value) at c.undone.ensures in
    let same : c.undone.result ≡ own_number rows c.args.row c.args.place = told (own_number rows c.args.row c.args.place) (e c.if-place-step.false) in
    rw (read_short c.undone.result (subst (IsWithin (2 ^ 62)) (sym same) (own_within c.args.step.now rows c.args.old.now c.args.row c.args.place h))) same
