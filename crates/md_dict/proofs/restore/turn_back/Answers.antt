use Rattle.std.proofs.Common.{◌≡◌, ◌+◌, ◌-◌, ◌*◌, ◌^◌, ◌<◌, ◌≤◌, length, ◌*ℤ◌, unsigned_abs, sym, ap, ap₂, ◌∙◌, subst, arith}
use lib.IntN.{*ℤ_comm}
use Rattle.md_math.specs.Lists.{number_at}
use Rattle.md_math.proofs.Division.{Divides-from_product}
use Rattle.md_math.proofs.Order.{*ℤ_cancel}
use Rattle.md_math.proofs.SizeLaws.{AllWithin-number_at}
use Rattle.md_math.proofs.Bits.{read_result}
use Rattle.md_dict.specs.declared.rows.Rows.{Rows}
use Rattle.md_dict.specs.Step.{number_in}
use Rattle.md_dict.specs.Rows.{own_den, own_number}
use Rattle.md_dict.specs.RowStep.{AreOldRows, CanBeTurnedBack}
use Rattle.md_dict_division.proofs.Reading.{product_small, sizes_small, widened}
use Rattle.md_dict.proofs.Parts.{AllWithin-part, end_inside, in_part, length_part, within_part, Leaves-part, IsTable-part}
use Rattle.md_dict.proofs.OldRows.{read_den, read_factor}
use Rattle.md_dict.proofs.RowSteps.{pivot_row_in}
use Rattle.md_dict.proofs.Restoring.{product_is}
use Rattle.md_dict.proofs.restore.turn_back.Goals as goal

pub product-whole-requires : goal.product-whole-requires
product-whole-requires c =
    let (rows, h, t) = c.requires.old in
    let row_in = pivot_row_in c.args.step.now rows h.step_is in
    let pivot = read_factor c.args.step.now rows c.args.old.now c.args.step.now.row h row_in in
    let own = read_den c.args.step.now rows c.args.old.now c.args.row h in
    let pivot_is = widened _ c.from-pivot.result pivot.size c.from-pivot.ensures in
    let own_is = widened _ c.from.result own.size c.from.ensures in
    rw (pivot_is, own_is) (sizes_small _ _ pivot.size own.size)

pub exact_quotient-divisor-requires-clause-exact : goal.exact_quotient-divisor-requires-clause-exact
exact_quotient-divisor-requires-clause-exact c =
    let (rows, h, t) = c.requires.old in
    let row_in = pivot_row_in c.args.step.now rows h.step_is in
    let pivot = read_factor c.args.step.now rows c.args.old.now c.args.step.now.row h row_in in
    let own = read_den c.args.step.now rows c.args.old.now c.args.row h in
    let pivot_is = widened _ c.from-pivot.result pivot.size c.from-pivot.ensures in
    let own_is = widened _ c.from.result own.size c.from.ensures in
    let whole_is = product_is _ _ c.from-pivot.result c.from.result c.product-whole.result pivot_is own_is c.product-whole.type_inv c.product-whole.ensures.value ∙ ap₂ (λ x y. x *ℤ y) pivot.value own.value in
    let den_is = widened c.args.den c.from-2.result c.requires.den c.from-2.ensures in
    rw (den_is, whole_is) (Divides-from_product c.args.den t.divisor _ (sym t.den_is ∙ *ℤ_comm t.divisor c.args.den))

pub slice_bounds-turn_numbers_back-end : goal.slice_bounds-turn_numbers_back-end
slice_bounds-turn_numbers_back-end c =
    let w = c.args.step.now.columns + 1 in
    let start = c.args.row * w in
    let end = start + c.args.step.now.columns + 1 in
    let inside : start + w ≤ length c.args.numbers.now = omega (arith, end_inside w c.args.row w (c.args.step.now.rows + 2) c.requires.row (omega arith), c.requires.table.kept_length) in
    let reach : end ≤ length c.args.numbers.now = omega (arith, inside) in
    reach

pub turn_numbers_back-requires-clause-old : goal.turn_numbers_back-requires-clause-old
turn_numbers_back-requires-clause-old c =
    let (rows, h, t) = c.requires.old in
    let row_in = pivot_row_in c.args.step.now rows h.step_is in
    let pivot = read_factor c.args.step.now rows c.args.old.now c.args.step.now.row h row_in in
    let own = read_den c.args.step.now rows c.args.old.now c.args.row h in
    let pivot_is = widened _ c.from-pivot.result pivot.size c.from-pivot.ensures in
    let own_is = widened _ c.from.result own.size c.from.ensures in
    let whole_is = product_is _ _ c.from-pivot.result c.from.result c.product-whole.result pivot_is own_is c.product-whole.type_inv c.product-whole.ensures.value ∙ ap₂ (λ x y. x *ℤ y) pivot.value own.value in
    let den_is = widened c.args.den c.from-2.result c.requires.den c.from-2.ensures in
    let told = rw (den_is, whole_is) at c.exact_quotient-divisor.ensures.value in
    let same : (rows : Rows) → AreOldRows c.args.step.now rows c.args.old.now → (t : CanBeTurnedBack c.args.step.now rows c.args.row c.args.den (number_in c.args.step.now c.args.numbers.now c.args.row)) → c.exact_quotient-divisor.result ≡ t.divisor =
    λ rows_2 h_2 t_2. *ℤ_cancel c.args.den c.exact_quotient-divisor.result t_2.divisor c.requires.positive (told ∙ ap₂ (λ x y. x *ℤ y) (sym pivot.value ∙ h_2.factors c.args.step.now.row row_in) (sym own.value ∙ ap (λ xs. number_at xs c.args.row) h_2.dens) ∙ sym t_2.den_is ∙ *ℤ_comm t_2.divisor c.args.den) in
    let wide = read_result c.exact_quotient-divisor.result c.exact_quotient-divisor.type_inv in
    let w = c.args.step.now.columns + 1 in
    let start = c.args.row * w in
    let end = start + c.args.step.now.columns + 1 in
    let inside : start + w ≤ length c.args.numbers.now = omega (arith, end_inside w c.args.row w (c.args.step.now.rows + 2) c.requires.row (omega arith), c.requires.table.kept_length) in
    rw wide (rows, h, record { at = λ s b p. ap₂ (λ x y. x *ℤ y) (same rows h t) (in_part c.args.numbers.now start end s (omega (arith, b))) ∙ t.numbers.at s b p })

pub turn_numbers_back-requires-clause-divisor : goal.turn_numbers_back-requires-clause-divisor
turn_numbers_back-requires-clause-divisor c =
    let (rows, h, t) = c.requires.old in
    let row_in = pivot_row_in c.args.step.now rows h.step_is in
    let pivot = read_factor c.args.step.now rows c.args.old.now c.args.step.now.row h row_in in
    let own = read_den c.args.step.now rows c.args.old.now c.args.row h in
    let pivot_is = widened _ c.from-pivot.result pivot.size c.from-pivot.ensures in
    let own_is = widened _ c.from.result own.size c.from.ensures in
    let whole_is = product_is _ _ c.from-pivot.result c.from.result c.product-whole.result pivot_is own_is c.product-whole.type_inv c.product-whole.ensures.value ∙ ap₂ (λ x y. x *ℤ y) pivot.value own.value in
    let den_is = widened c.args.den c.from-2.result c.requires.den c.from-2.ensures in
    let wide = read_result c.exact_quotient-divisor.result c.exact_quotient-divisor.type_inv in
    let le = rw whole_is at c.exact_quotient-divisor.ensures.size in
    let small : unsigned_abs (own_number rows c.args.step.now.row c.args.step.now.place *ℤ own_den rows c.args.row) < 2 ^ 126 =
    subst (λ z. unsigned_abs z < 2 ^ 126) (ap₂ (λ x y. x *ℤ y) pivot.value own.value) (product_small _ _ pivot.size own.size) in
    rw wide (omega (arith, le, small))

pub turn_numbers_back-requires-clause-length : goal.turn_numbers_back-requires-clause-length
turn_numbers_back-requires-clause-length c =
    let w = c.args.step.now.columns + 1 in
    let start = c.args.row * w in
    let end = start + c.args.step.now.columns + 1 in
    let inside : start + w ≤ length c.args.numbers.now = omega (arith, end_inside w c.args.row w (c.args.step.now.rows + 2) c.requires.row (omega arith), c.requires.table.kept_length) in
    length_part c.args.numbers.now start end (omega arith) (omega (arith, inside)) ∙ (let same : end - start ≡ w = omega arith in same)

pub turn_numbers_back-requires-clause-size : goal.turn_numbers_back-requires-clause-size
turn_numbers_back-requires-clause-size c =
    let w = c.args.step.now.columns + 1 in
    let start = c.args.row * w in
    let end = start + c.args.step.now.columns + 1 in
    let inside : start + w ≤ length c.args.numbers.now = omega (arith, end_inside w c.args.row w (c.args.step.now.rows + 2) c.requires.row (omega arith), c.requires.table.kept_length) in
    AllWithin-part c.args.step.now.limit c.args.numbers.now start end (omega arith) (omega (arith, inside)) (λ k _. AllWithin-number_at c.args.step.now.limit c.args.numbers.now (start + k) c.requires.table.kept_limit)

pub returns-clause-back : goal.returns-clause-back
returns-clause-back c =
    let (rows, h, t) = c.requires.old in
    let row_in = pivot_row_in c.args.step.now rows h.step_is in
    let pivot = read_factor c.args.step.now rows c.args.old.now c.args.step.now.row h row_in in
    let own = read_den c.args.step.now rows c.args.old.now c.args.row h in
    let pivot_is = widened _ c.from-pivot.result pivot.size c.from-pivot.ensures in
    let own_is = widened _ c.from.result own.size c.from.ensures in
    let whole_is = product_is _ _ c.from-pivot.result c.from.result c.product-whole.result pivot_is own_is c.product-whole.type_inv c.product-whole.ensures.value ∙ ap₂ (λ x y. x *ℤ y) pivot.value own.value in
    let den_is = widened c.args.den c.from-2.result c.requires.den c.from-2.ensures in
    let told = rw (den_is, whole_is) at c.exact_quotient-divisor.ensures.value in
    let same : (rows : Rows) → AreOldRows c.args.step.now rows c.args.old.now → (t : CanBeTurnedBack c.args.step.now rows c.args.row c.args.den (number_in c.args.step.now c.args.numbers.now c.args.row)) → c.exact_quotient-divisor.result ≡ t.divisor =
    λ rows_2 h_2 t_2. *ℤ_cancel c.args.den c.exact_quotient-divisor.result t_2.divisor c.requires.positive (told ∙ ap₂ (λ x y. x *ℤ y) (sym pivot.value ∙ h_2.factors c.args.step.now.row row_in) (sym own.value ∙ ap (λ xs. number_at xs c.args.row) h_2.dens) ∙ sym t_2.den_is ∙ *ℤ_comm t_2.divisor c.args.den) in
    let wide = read_result c.exact_quotient-divisor.result c.exact_quotient-divisor.type_inv in
    let w = c.args.step.now.columns + 1 in
    let start = c.args.row * w in
    let end = start + c.args.step.now.columns + 1 in
    let inside : start + w ≤ length c.args.numbers.now = omega (arith, end_inside w c.args.row w (c.args.step.now.rows + 2) c.requires.row (omega arith), c.requires.table.kept_length) in
    let long : length c.turn_numbers_back.new.own ≡ end - start = c.turn_numbers_back.ensures.length ∙ (let same : w ≡ end - start = omega arith in same) in
    λ rows_3 h_3 t_3 s b.
    within_part start (end - start) s c.args.numbers.now c.turn_numbers_back.new.own (omega (arith, inside)) (omega (arith, b, c.turn_numbers_back.ensures.length))
    ∙ (rw wide at c.turn_numbers_back.ensures.back) rows_3 h_3 (record { at = λ k d p. ap₂ (λ x y. x *ℤ y) (same rows_3 h_3 t_3) (in_part c.args.numbers.now start end k (omega (arith, d))) ∙ t_3.numbers.at k d p }) s b

pub returns-clause-leaves : goal.returns-clause-leaves
returns-clause-leaves c =
    let w = c.args.step.now.columns + 1 in
    let start = c.args.row * w in
    let end = start + c.args.step.now.columns + 1 in
    let inside : start + w ≤ length c.args.numbers.now = omega (arith, end_inside w c.args.row w (c.args.step.now.rows + 2) c.requires.row (omega arith), c.requires.table.kept_length) in
    let long : length c.turn_numbers_back.new.own ≡ end - start = c.turn_numbers_back.ensures.length ∙ (let same : w ≡ end - start = omega arith in same) in
    Leaves-part c.args.step.now c.args.row start (end - start) c.args.numbers.now c.turn_numbers_back.new.own (omega arith) (omega arith) (omega (arith, inside)) long

pub returns-clause-table : goal.returns-clause-table
returns-clause-table c =
    let w = c.args.step.now.columns + 1 in
    let start = c.args.row * w in
    let end = start + c.args.step.now.columns + 1 in
    let inside : start + w ≤ length c.args.numbers.now = omega (arith, end_inside w c.args.row w (c.args.step.now.rows + 2) c.requires.row (omega arith), c.requires.table.kept_length) in
    let long : length c.turn_numbers_back.new.own ≡ end - start = c.turn_numbers_back.ensures.length ∙ (let same : w ≡ end - start = omega arith in same) in
    IsTable-part c.args.step.now c.args.numbers.now c.turn_numbers_back.new.own start (end - start) (omega (arith, inside)) long c.turn_numbers_back.ensures.size c.requires.table
