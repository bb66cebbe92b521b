use Rattle.std.proofs.Common.{sym, subst, arith}
use Rattle.md_math.specs.Sizes.{IsWithin}
use Rattle.md_math.proofs.Readings.{read, read_of, widened, product_is}
use Rattle.md_math.proofs.SizeLaws.{IsWithin-*ℤ}
use Rattle.md_unit_tables.proofs.worth.further.Goals as goal

pub returns-clause-value : goal.returns-clause-value
returns-clause-value c =
    read _ _
    (product_is _ _ _ _ _ c.product.type_inv
    (widened _ _ _ c.from.type_inv c.keep.type_inv c.from.ensures c.keep.ensures.value)
    (read_of _ _ c.from-2.type_inv c.from-2.ensures) c.product.ensures.value)

pub returns-clause-size : goal.returns-clause-size
returns-clause-size c =
    subst (IsWithin 12000000) (sym (returns-clause-value c))
    (IsWithin-*ℤ 1000000 12 _ _ c.keep.ensures.shaped.keep (record { within = omega (arith, c.requires.few) }))
