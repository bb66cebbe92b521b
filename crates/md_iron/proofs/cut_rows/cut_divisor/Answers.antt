use Rattle.std.proofs.Common.{◌≡◌, to_z, of_z, sym, subst, ◌∙◌}
use mir.Syntax.{w128}
use Rattle.md_math.specs.Divisors.{Divides}
use Rattle.md_math.proofs.Bits.{read_result}
use Rattle.md_lp.specs.Program.{right_at}
use Rattle.md_border.specs.Sides.{right_by_counts}
use Rattle.md_iron.proofs.cut_rows.cut_divisor.Goals as goal

pub exact_quotient-requires-clause-exact : goal.exact_quotient-requires-clause-exact
exact_quotient-requires-clause-exact c =
    let right : to_z w128 (of_z w128 c.right.result) ≡ right_at c.args.lp.now c.args.row = read_result c.right.result c.right.type_inv ∙ c.right.ensures.value in
    let side : to_z w128 (of_z w128 c.right_side_for.result) ≡ right_by_counts c.args.auction.now c.args.units c.args.set = read_result c.right_side_for.result c.right_side_for.type_inv ∙ c.right_side_for.ensures.value in
    subst (λ z. Divides z (to_z w128 (of_z w128 c.right_side_for.result))) (sym right) (subst (Divides (right_at c.args.lp.now c.args.row)) (sym side) c.requires.divides)
