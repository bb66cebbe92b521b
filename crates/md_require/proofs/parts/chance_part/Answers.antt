use Rattle.std.proofs.Common.{◌*◌, ◌^◌, ◌*ℤ◌, refl, sym, ◌∙◌, subst, arith}
use Rattle.md_math.specs.Sizes.{IsWithin}
use Rattle.md_math.proofs.Bits.{read_result}
use Rattle.md_math.proofs.SizeLaws.{IsWithin-wider, IsWithin-*ℤ}
use Rattle.md_space.proofs.Ranks.{rank_of-profile_at}
use Rattle.md_setting.specs.Meaning.{sizes_of}
use Rattle.md_require.proofs.parts.chance_part.Goals as goal

pub returns-in-Welfare-clause-size : goal.returns-in-Welfare-clause-size
returns-in-Welfare-clause-size c =
    let value = rw (read_result c.weight.result c.weight.type_inv, read_result c.welfare.result c.welfare.type_inv) at c.product.ensures.value in
    rw (read_result c.product.result c.product.type_inv)
    (subst (IsWithin (2 ^ 43)) (sym value)
    (IsWithin-wider (1000000 * 6000000) (2 ^ 43) (c.weight.result *ℤ c.welfare.result) (omega arith) (IsWithin-*ℤ 1000000 6000000 c.weight.result c.welfare.result c.weight.ensures.size c.welfare.ensures.size)))

pub returns-in-Utility-clause-size : goal.returns-in-Utility-clause-size
returns-in-Utility-clause-size c =
    let w = c.weight-in-Utility in
    let value = rw (read_result w.result w.type_inv, read_result c.utility.result c.utility.type_inv) at c.product-in-Utility.ensures.value in
    rw (read_result c.product-in-Utility.result c.product-in-Utility.type_inv)
    (subst (IsWithin (2 ^ 43)) (sym value)
    (IsWithin-wider (1000000 * 1000000) (2 ^ 43) (w.result *ℤ c.utility.result) (omega arith) (IsWithin-*ℤ 1000000 1000000 w.result c.utility.result w.ensures.size c.utility.ensures.size)))

pub returns-in-ChanceAt-clause-value : goal.returns-in-ChanceAt-clause-value
returns-in-ChanceAt-clause-value c =
    let inside = rw c.in-ChanceAt.is at c.requires.inside in
    let inner = c.value_where-in-ChanceAt in
    let outer = c.value_where-in-ChanceAt-2 in
    read_result outer.result outer.type_inv
    ∙ (rw (read_result inner.result inner.type_inv, inner.ensures) at outer.ensures)
    ∙ rw (c.in-ChanceAt.is, rank_of-profile_at (sizes_of c.args.setting.now) c.in-ChanceAt.at inside.0) refl
