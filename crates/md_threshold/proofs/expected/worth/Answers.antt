use Rattle.std.proofs.Common.{◌+◌, ◌*◌, ◌^◌, sym, subst, arith}
use Rattle.md_math.specs.Sizes.{IsWithin}
use Rattle.md_math.proofs.Readings.{read, read_of, add_product_is}
use Rattle.md_math.proofs.SizeLaws.{IsWithin-wider, IsWithin-+ℤ, IsWithin-*ℤ}
use Rattle.md_mech.specs.Accepted.{number_limit}
use Rattle.md_threshold.proofs.expected.worth.Goals as goal

pub returns-clause-size : goal.returns-clause-size
returns-clause-size c =
    subst (IsWithin (2 ^ 125))
    (sym
    (read _ _
    (add_product_is _ _ _ _ _ _ _ c.add_product.type_inv (read_of _ _ c.of_all-all.type_inv c.of_all-all.ensures.value) (read_of _ _ c.kept.type_inv c.kept.ensures.value) (read_of _ _ c.whole.type_inv c.whole.ensures.value) c.add_product.ensures.value)))
    (IsWithin-wider (12 * (12 * (1000000 * 2 ^ 89)) + (1000000 * 12) * (1000000 * number_limit)) (2 ^ 125) _ (omega arith)
    (IsWithin-+ℤ (12 * (12 * (1000000 * 2 ^ 89))) ((1000000 * 12) * (1000000 * number_limit)) _ _
    (subst (IsWithin (12 * (12 * (1000000 * 2 ^ 89)))) c.of_all-all.ensures.value c.of_all-all.ensures.size)
    (IsWithin-*ℤ (1000000 * 12) (1000000 * number_limit) _ _ (subst (IsWithin (1000000 * 12)) c.kept.ensures.value c.kept.ensures.size) (subst (IsWithin (1000000 * number_limit)) c.whole.ensures.value c.whole.ensures.size))))
