use Rattle.std.proofs.Common.{◌-◌, ◌^◌, ◌*ℤ◌}
use Rattle.std.proofs.lemmas.Int.{to_z-of_z}
use mir.Syntax.{w128}
use Rattle.md_math.specs.Sizes.{IsWithin}
use Rattle.md_math.proofs.Bits.{read_result}
use Rattle.md_iron.specs.Multiples.{IsMultipleOfTwo}
use Rattle.md_iron.proofs.LeastMultiples.{IsWithin-factor, least-short, matched}
use Rattle.md_iron.proofs.multiples.common_multiple.Goals as goal

pub returns-then-not-is_short : goal.returns-then-not-is_short
returns-then-not-is_short c = λ s.
    let multiple : IsMultipleOfTwo c.args.a c.args.b (c.args.a *ℤ c.missing_factor-factor.result) = rw (to_z-of_z w128 c.args.a c.ranges.a, to_z-of_z w128 c.args.b c.ranges.b) at c.missing_factor-factor.ensures in
    let factor : IsWithin (2 ^ 62 - 1) c.missing_factor-factor.result =
    IsWithin-factor (2 ^ 62 - 1) c.args.a c.missing_factor-factor.result c.requires.left (least-short c.args.a c.args.b (c.args.a *ℤ c.missing_factor-factor.result) multiple s) in
    let told = c.is_short.ensures.1 (rw (read_result c.missing_factor-factor.result c.missing_factor-factor.type_inv) factor) in
    cc

pub returns : goal.returns
returns c =
    matched c.args.a c.args.b c.missing_factor-factor.result c.short_product.result
    (rw (to_z-of_z w128 c.args.a c.ranges.a, to_z-of_z w128 c.args.b c.ranges.b) at c.missing_factor-factor.ensures)
    (rw (to_z-of_z w128 c.args.a c.ranges.a, read_result c.missing_factor-factor.result c.missing_factor-factor.type_inv) at c.short_product.ensures)
