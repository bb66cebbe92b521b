use Rattle.std.proofs.Common.{◌≡◌, ◌*◌, ◌^◌, ◌≤◌, ◌*ℤ◌, sym, subst, arith, lit<}
use Rattle.md_math.specs.Sizes.{IsWithin}
use Rattle.md_math.proofs.Bits.{read_result, read_within}
use Rattle.md_math.proofs.SizeLaws.{IsWithin-*ℤ, IsWithin-wider}
use Rattle.md_rows.proofs.terms.scaled_utility.Goals as goal

pub returns-clause-size : goal.returns-clause-size
returns-clause-size c =
    let value : c.product.result ≡ c.args.weight *ℤ c.utility.result = rw (read_within 1000000 c.args.weight c.requires.small (lit< tt), read_result c.utility.result c.utility.type_inv) at c.product.ensures.value in
    let below : 1000000 * 1000000 ≤ 2 ^ 44 = omega arith in
    rw (read_result c.product.result c.product.type_inv)
    (subst (IsWithin (2 ^ 44)) (sym value) (IsWithin-wider (1000000 * 1000000) (2 ^ 44) (c.args.weight *ℤ c.utility.result) below (IsWithin-*ℤ 1000000 1000000 c.args.weight c.utility.result c.requires.small c.utility.ensures.size)))
