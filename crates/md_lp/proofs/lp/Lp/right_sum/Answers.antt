use Rattle.std.proofs.Common.{◌≡◌, ◌^◌, ◌<◌, subst, sym, ap, ◌∙◌, arith}
use Rattle.md_math.specs.Lists.{number_at}
use Rattle.md_math.specs.Sizes.{IsWithin}
use Rattle.md_math.specs.Sums.{dot}
use Rattle.md_math.proofs.Bits.{read_result}
use Rattle.md_lp.specs.Program.{row_count, right_at}
use Rattle.md_lp.proofs.ColumnRuns.{right_room, right_sum-within}
use Rattle.md_lp.proofs.lp.Lp.right_sum.Goals as goal

pub add_product-sum-requires : goal.add_product-sum-requires
add_product-sum-requires c =
    let inside : c.loop-row.row < row_count c.args.self.now = omega (arith, c.rows-row-end.ensures.value) in
    rw (c.loop-row.invariant, read_result c.right.result c.right.type_inv, c.right.ensures.value, read_result c.get.result c.get.type_inv, c.get.ensures)
    (right_room c.args.self.now c.args.numbers.now c.loop-row.row c.rows-row-end.ensures.shaped c.requires.sizes inside)

pub returns-clause-size : goal.returns-clause-size
returns-clause-size c =
    let all : c.loop-row.row ≡ row_count c.args.self.now = omega (arith, c.rows-row-end.ensures.value, c.loop-row.auto.row-end) in
    let whole = c.loop-row.invariant ∙ ap (λ m. dot m (right_at c.args.self.now) (number_at c.args.numbers.now)) all in
    subst (IsWithin (2 ^ 119)) (sym whole) (right_sum-within c.args.self.now c.args.numbers.now c.rows-row-end.ensures.shaped c.requires.sizes)
