use Rattle.std.proofs.Common.{◌^◌, refl, sym}
use mir.Syntax.{w128}
use Rattle.std.proofs.lemmas.Int.{to_z-of_z}
use Rattle.md_math.proofs.Bits.{read_result}
use Rattle.md_lp.specs.Program.{Row}
use Rattle.md_lp.proofs.ShapeLaws.{value_sizes}
use Rattle.md_lp.proofs.Dividing.{Divides-right, Divides-values}
use Rattle.md_lp.proofs.divide.divided_row.Goals as goal

pub divided_terms-requires-clause-exact : goal.divided_terms-requires-clause-exact
divided_terms-requires-clause-exact c =
    let raw : Row = record { kind = c.args.kind; terms = c.args.terms.now; right = c.args.right } in
    let divisor = rw (to_z-of_z w128 c.args.right c.ranges.right) at c.row_divisor-by.ensures in
    rw (read_result c.row_divisor-by.result c.row_divisor-by.type_inv) (Divides-values c.row_divisor-by.result raw divisor)

pub divided_terms-requires-clause-sizes : goal.divided_terms-requires-clause-sizes
divided_terms-requires-clause-sizes c =
    let raw : Row = record { kind = c.args.kind; terms = c.args.terms.now; right = c.args.right } in
    value_sizes (2 ^ 44) raw c.requires.sizes

pub exact_quotient-requires-clause-exact : goal.exact_quotient-requires-clause-exact
exact_quotient-requires-clause-exact c =
    let raw : Row = record { kind = c.args.kind; terms = c.args.terms.now; right = c.args.right } in
    let divisor = rw (to_z-of_z w128 c.args.right c.ranges.right) at c.row_divisor-by.ensures in
    rw (read_result c.row_divisor-by.result c.row_divisor-by.type_inv, to_z-of_z w128 c.args.right c.ranges.right) (Divides-right c.row_divisor-by.result raw divisor)

pub returns : goal.returns
returns c =
    let divisor = rw (to_z-of_z w128 c.args.right c.ranges.right) at c.row_divisor-by.ensures in
    let quotient = rw (read_result c.row_divisor-by.result c.row_divisor-by.type_inv, to_z-of_z w128 c.args.right c.ranges.right) at c.exact_quotient.ensures.value in
    let terms = rw (read_result c.row_divisor-by.result c.row_divisor-by.type_inv) at c.in_ok-divided_terms.ensures in
    rw (read_result c.exact_quotient.result c.exact_quotient.type_inv) (record {
      by = c.row_divisor-by.result;
      divisor = divisor;
      kind = refl;
      right = sym quotient;
      terms = terms;
    })
