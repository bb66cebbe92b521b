use Rattle.std.proofs.Common.{◌<◌, length, arith}
use Rattle.md_math.proofs.Bits.{read_result}
use Rattle.md_lp.proofs.SumSizes.{product_room}
use Rattle.md_lp.proofs.sums.sum_of_products.Goals as goal

pub add_product-sum-requires : goal.add_product-sum-requires
add_product-sum-requires c =
    let k = c.loop-place.place in
    let inside : k < length c.args.left.now = omega arith in
    rw (c.loop-place.invariant, read_result c.get.result c.get.type_inv, c.get.ensures, read_result c.get-in-loop-place.result c.get-in-loop-place.type_inv, c.get-in-loop-place.ensures)
    (product_room (length c.args.left.now) k c.args.left.now c.args.right.now c.requires.few inside c.requires.left_sizes c.requires.right_sizes)
