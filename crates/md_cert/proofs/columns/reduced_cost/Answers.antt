use Rattle.std.proofs.Common.{◌≡◌, ◌+◌, ◌*◌, ◌-◌, ◌^◌, ◌-ℤ◌, ◌*ℤ◌, to_z, of_z, lit<}
use mir.Syntax.{w128}
use Rattle.std.proofs.lemmas.Int.{to_z-of_z}
use Rattle.md_math.specs.Sizes.{IsWithin}
use Rattle.md_math.proofs.SizeLaws.{IsWithin-sub, IsWithin-*ℤ}
use Rattle.md_math.proofs.Bits.{read_within, read_result}
use Rattle.md_lp.specs.Program.{cost_at}
use Rattle.md_cert.proofs.columns.reduced_cost.Goals as goal

pub returns : goal.returns
returns c =
    let over : to_z w128 (of_z w128 c.args.over) ≡ c.args.over = to_z-of_z w128 c.args.over c.ranges.over in
    let cost = cost_at c.args.lp.now c.args.column in
    let product : c.product.result ≡ c.args.over *ℤ cost = rw (over, read_result c.cost.result c.cost.type_inv, c.cost.ensures.value) at c.product.ensures.value in
    let cost_size : IsWithin (2 ^ 44) cost = rw c.cost.ensures.value at c.cost.ensures.size in
    let size : IsWithin (2 ^ 119 + (2 ^ 62 - 1) * 2 ^ 44) (c.args.sum -ℤ c.args.over *ℤ cost) =
    IsWithin-sub (2 ^ 119) ((2 ^ 62 - 1) * 2 ^ 44) c.args.sum (c.args.over *ℤ cost) c.requires.size (IsWithin-*ℤ (2 ^ 62 - 1) (2 ^ 44) c.args.over cost c.requires.denominator.size cost_size) in
    rw (to_z-of_z w128 c.args.sum c.ranges.sum, read_result c.product.result c.product.type_inv, product)
    (read_within (2 ^ 119 + (2 ^ 62 - 1) * 2 ^ 44) (c.args.sum -ℤ c.args.over *ℤ cost) size (lit< tt))
