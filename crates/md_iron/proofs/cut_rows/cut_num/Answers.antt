use Rattle.std.proofs.Common.{◌*◌, ◌^◌, ◌-ℤ◌, ◌*ℤ◌, subst, arith, lit<}
use Rattle.md_math.specs.Sizes.{IsWithin}
use Rattle.md_math.proofs.Readings.{IsRead, read, read_of, read_small, product_fits, product_is}
use Rattle.md_math.proofs.SizeLaws.{IsWithin-*ℤ}
use Rattle.md_iron.proofs.cut_rows.cut_num.Goals as goal

pub product-requires : goal.product-requires
product-requires c =
    product_fits _ _ _ _ (2 ^ 76) (12 * 10 ^ 12) (read_of _ _ c.steeper.type_inv c.steeper.ensures.value) (read_small (12 * 10 ^ 12) _ c.requires.divisor (lit< tt))
    (subst (IsWithin (2 ^ 76)) c.steeper.ensures.value c.steeper.ensures.size) c.requires.divisor (lit< tt)

whole : (c : goal.After-product) → IsRead c.product.result ((c.args.chord.now.rise *ℤ c.args.before.now.weight -ℤ c.args.before.now.rise *ℤ c.args.chord.now.weight) *ℤ c.args.divisor)
whole c = product_is _ _ _ _ _ c.product.type_inv (read_of _ _ c.steeper.type_inv c.steeper.ensures.value) (read_small (12 * 10 ^ 12) _ c.requires.divisor (lit< tt)) c.product.ensures.value

pub returns-clause-value : goal.returns-clause-value
returns-clause-value c = read _ _ (whole c)

pub returns-clause-size : goal.returns-clause-size
returns-clause-size c =
    let small : IsWithin (2 ^ 76 * (12 * 10 ^ 12)) ((c.args.chord.now.rise *ℤ c.args.before.now.weight -ℤ c.args.before.now.rise *ℤ c.args.chord.now.weight) *ℤ c.args.divisor) =
    IsWithin-*ℤ (2 ^ 76) (12 * 10 ^ 12) _ c.args.divisor (subst (IsWithin (2 ^ 76)) c.steeper.ensures.value c.steeper.ensures.size) c.requires.divisor in
    rw (read _ _ (whole c)) (omega (arith, small.within))
