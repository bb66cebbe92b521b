use Rattle.std.proofs.Common.{◌≡◌, ◌^◌, ℤ, ◌+ℤ◌, ◌-ℤ◌, ◌*ℤ◌, sym, subst, lit<}
use mir.Syntax.{w64}
use Rattle.md_math.specs.Sizes.{IsWithin}
use Rattle.md_math.proofs.SizeLaws.{fits_from_IsWithin}
use Rattle.md_math.proofs.Division.{Divides-from_product}
use Rattle.md_dict_division.proofs.Reading.{read, read_short, read_small, read_wide, sizes_small, widened}
use Rattle.md_dict.proofs.Restoring.{changed_small, product_is, quotient_is_own, sum_fits, whole_is}
use Rattle.md_dict.proofs.restore.undone.Goals as goal

pub product-changed-requires : goal.product-changed-requires
product-changed-requires c =
    let (own, w, e) = c.requires.own in
    rw (read_wide c.args.divisor c.requires.divisor, widened c.args.number c.from.result c.requires.number c.from.ensures)
    (changed_small c.args.divisor c.args.number c.args.pivot own c.args.factor c.args.taken c.requires.pivot w c.requires.factor c.requires.taken e)

pub product-taken_off-requires : goal.product-taken_off-requires
product-taken_off-requires c =
    rw (widened c.args.factor c.from-2.result c.requires.factor c.from-2.ensures, widened c.args.taken c.from-3.result c.requires.taken c.from-3.ensures)
    (sizes_small c.args.factor c.args.taken c.requires.factor c.requires.taken)

pub overflow_add-changed : goal.overflow_add-changed
overflow_add-changed c =
    let (own, w, e) = c.requires.own in
    let number = widened c.args.number c.from.result c.requires.number c.from.ensures in
    let factor = widened c.args.factor c.from-2.result c.requires.factor c.from-2.ensures in
    let taken = widened c.args.taken c.from-3.result c.requires.taken c.from-3.ensures in
    let changed = product_is c.args.divisor c.args.number c.args.divisor c.from.result c.product-changed.result (read_wide c.args.divisor c.requires.divisor) number c.product-changed.type_inv c.product-changed.ensures.value in
    let taken_off = product_is c.args.factor c.args.taken c.from-2.result c.from-3.result c.product-taken_off.result factor taken c.product-taken_off.type_inv c.product-taken_off.ensures.value in
    let fits = sum_fits c.args.divisor c.args.number c.args.pivot own c.args.factor c.args.taken c.requires.pivot w c.requires.factor c.requires.taken e in
    rw (changed, taken_off) fits

pub exact_quotient-requires-clause-exact : goal.exact_quotient-requires-clause-exact
exact_quotient-requires-clause-exact c =
    let (own, w, e) = c.requires.own in
    let number = widened c.args.number c.from.result c.requires.number c.from.ensures in
    let factor = widened c.args.factor c.from-2.result c.requires.factor c.from-2.ensures in
    let taken = widened c.args.taken c.from-3.result c.requires.taken c.from-3.ensures in
    let changed = product_is c.args.divisor c.args.number c.args.divisor c.from.result c.product-changed.result (read_wide c.args.divisor c.requires.divisor) number c.product-changed.type_inv c.product-changed.ensures.value in
    let taken_off = product_is c.args.factor c.args.taken c.from-2.result c.from-3.result c.product-taken_off.result factor taken c.product-taken_off.type_inv c.product-taken_off.ensures.value in
    let fits = sum_fits c.args.divisor c.args.number c.args.pivot own c.args.factor c.args.taken c.requires.pivot w c.requires.factor c.requires.taken e in
    let pivot = widened c.args.pivot c.from-4.result c.requires.pivot c.from-4.ensures in
    let whole = c.args.divisor *ℤ c.args.number +ℤ c.args.factor *ℤ c.args.taken in
    rw (pivot, changed, taken_off, read whole fits) (Divides-from_product c.args.pivot own whole (whole_is c.args.divisor c.args.number c.args.pivot own c.args.factor c.args.taken e))

pub overflow_cast-result : goal.overflow_cast-result
overflow_cast-result c =
    let (own, w, e) = c.requires.own in
    let number = widened c.args.number c.from.result c.requires.number c.from.ensures in
    let factor = widened c.args.factor c.from-2.result c.requires.factor c.from-2.ensures in
    let taken = widened c.args.taken c.from-3.result c.requires.taken c.from-3.ensures in
    let changed = product_is c.args.divisor c.args.number c.args.divisor c.from.result c.product-changed.result (read_wide c.args.divisor c.requires.divisor) number c.product-changed.type_inv c.product-changed.ensures.value in
    let taken_off = product_is c.args.factor c.args.taken c.from-2.result c.from-3.result c.product-taken_off.result factor taken c.product-taken_off.type_inv c.product-taken_off.ensures.value in
    let fits = sum_fits c.args.divisor c.args.number c.args.pivot own c.args.factor c.args.taken c.requires.pivot w c.requires.factor c.requires.taken e in
    let pivot = widened c.args.pivot c.from-4.result c.requires.pivot c.from-4.ensures in
    let whole = c.args.divisor *ℤ c.args.number +ℤ c.args.factor *ℤ c.args.taken in
    let same : (x : ℤ) → c.args.divisor *ℤ c.args.number ≡ c.args.pivot *ℤ x -ℤ c.args.factor *ℤ c.args.taken → c.exact_quotient.result ≡ x =
    λ x g. quotient_is_own c.args.pivot x c.exact_quotient.result whole c.requires.positive (whole_is c.args.divisor c.args.number c.args.pivot x c.args.factor c.args.taken g) (rw (pivot, changed, taken_off, read whole fits) at c.exact_quotient.ensures.value) in
    let small : IsWithin (2 ^ 62) c.exact_quotient.result = subst (IsWithin (2 ^ 62)) (sym (same own e)) w in
    rw (read_small c.exact_quotient.result small) (fits_from_IsWithin w64 (2 ^ 62) c.exact_quotient.result small (lit< tt))

pub returns : goal.returns
returns c =
    let (own, w, e) = c.requires.own in
    let number = widened c.args.number c.from.result c.requires.number c.from.ensures in
    let factor = widened c.args.factor c.from-2.result c.requires.factor c.from-2.ensures in
    let taken = widened c.args.taken c.from-3.result c.requires.taken c.from-3.ensures in
    let changed = product_is c.args.divisor c.args.number c.args.divisor c.from.result c.product-changed.result (read_wide c.args.divisor c.requires.divisor) number c.product-changed.type_inv c.product-changed.ensures.value in
    let taken_off = product_is c.args.factor c.args.taken c.from-2.result c.from-3.result c.product-taken_off.result factor taken c.product-taken_off.type_inv c.product-taken_off.ensures.value in
    let fits = sum_fits c.args.divisor c.args.number c.args.pivot own c.args.factor c.args.taken c.requires.pivot w c.requires.factor c.requires.taken e in
    let pivot = widened c.args.pivot c.from-4.result c.requires.pivot c.from-4.ensures in
    let whole = c.args.divisor *ℤ c.args.number +ℤ c.args.factor *ℤ c.args.taken in
    let same : (x : ℤ) → c.args.divisor *ℤ c.args.number ≡ c.args.pivot *ℤ x -ℤ c.args.factor *ℤ c.args.taken → c.exact_quotient.result ≡ x =
    λ x g. quotient_is_own c.args.pivot x c.exact_quotient.result whole c.requires.positive (whole_is c.args.divisor c.args.number c.args.pivot x c.args.factor c.args.taken g) (rw (pivot, changed, taken_off, read whole fits) at c.exact_quotient.ensures.value) in
    let small : IsWithin (2 ^ 62) c.exact_quotient.result = subst (IsWithin (2 ^ 62)) (sym (same own e)) w in
    λ x g. rw (read_small c.exact_quotient.result small, read_short c.exact_quotient.result small) (same x g)
