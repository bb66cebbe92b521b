use Rattle.std.proofs.Common.{◌^◌, arith}
use Rattle.md_math.specs.Sizes.{IsWithin}
use Rattle.md_lp.specs.declared.row_kind.RowKind.TheVariants.{AtMost}
use Rattle.md_lp.specs.Program.{Row}
use Rattle.md_lp.proofs.ShapeLaws.{AllWithin-numbers_of, value_sizes}
use Rattle.md_lp.proofs.sizes.row_is_small.Goals as goal

pub returns-then-is_small : goal.returns-then-is_small
returns-then-is_small c =
    let row : Row = record { kind = AtMost; terms = c.args.terms.now; right = c.args.right } in
    let right : IsWithin (2 ^ 44) c.args.right = grind arith in
    (λ t. AllWithin-numbers_of (2 ^ 44) row right (c.values_are_small.ensures.0 t), λ h. c.values_are_small.ensures.1 (value_sizes (2 ^ 44) row h))
