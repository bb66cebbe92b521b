use Rattle.std.proofs.Common.{◌+◌, ◌*◌, ◌^◌, sym, subst, lit<, arith}
use Rattle.std.proofs.lemmas.Int.{to_z-of_z}
use mir.Syntax.{w128}
use Rattle.md_math.specs.Sizes.{IsWithin}
use Rattle.md_math.proofs.Bits.{read_result, read_within}
use Rattle.md_math.proofs.SizeLaws.{AllWithin-number_at, IsWithin-wider}
use Rattle.md_mech.specs.Accepted.{number_limit}
use Rattle.md_require.proofs.PriceLaws.{grown-size}
use Rattle.md_require.proofs.price.with_row.Goals as goal

pub returns-clause-size : goal.returns-clause-size
returns-clause-size c =
    let main = c.args.bound.now.main in
    let price = c.args.price in
    let small : IsWithin (2 ^ 94) price.sum = IsWithin-wider (price.row * 2 ^ 82) (2 ^ 94) price.sum (omega (arith, c.requires.main, c.requires.few)) c.requires.size in
    let multiplier : IsWithin number_limit c.get.result = subst (IsWithin number_limit) (sym c.get.ensures) (AllWithin-number_at number_limit main price.row c.requires.sizes) in
    let value = rw (read_within (2 ^ 94) price.sum small (lit< tt), read_result c.get.result c.get.type_inv, to_z-of_z w128 c.args.whole c.ranges.whole) at c.add_product.ensures.value in
    rw (read_result c.add_product.result c.add_product.type_inv)
    (subst (IsWithin ((price.row + 1) * 2 ^ 82)) (sym value) (grown-size price.row price.sum c.get.result c.args.whole c.requires.size multiplier c.requires.whole))
