use Rattle.std.proofs.Common.{◌≡◌, to_z, of_z, arith}
use Rattle.std.proofs.lemmas.Int.{to_z-of_z}
use mir.Syntax.{w128}
use Rattle.md_require.proofs.ShortLaws.{read-wide, short-or-long}
use Rattle.md_require.proofs.fractions.short_product.Goals as goal

pub returns : goal.returns
returns c =
    let a = c.reduced-first.result in
    let b = c.reduced-second.result in
    let first = rw (to_z-of_z w128 c.args.left c.ranges.left, to_z-of_z w128 c.args.den c.ranges.den) at c.reduced-first.ensures in
    let a_num : to_z w128 (of_z w128 a.num) ≡ a.num = read-wide a.num (omega (arith, first.num_size, c.requires.left_size)) in
    let a_den : to_z w128 (of_z w128 a.den) ≡ a.den = read-wide a.den (omega (arith, first.den_size, c.requires.den_size)) in
    let second = rw (to_z-of_z w128 c.args.right c.ranges.right, a_den) at c.reduced-second.ensures in
    let b_num : to_z w128 (of_z w128 b.num) ≡ b.num = read-wide b.num (omega (arith, second.num_size, c.requires.right_size)) in
    let b_den : to_z w128 (of_z w128 b.den) ≡ b.den = read-wide b.den (omega (arith, second.den_size, first.den_size, c.requires.den_size)) in
    short-or-long c.args.left c.args.right c.args.den a b c.short.result (record { least = first.least; value = first.value }) (record { least = second.least; value = second.value })
    (rw (a_num, b_num, b_den) at c.short.ensures)
