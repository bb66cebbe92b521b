use Rattle.std.proofs.Common.{◌≡◌, ◌∙◌, ◌↔◌, ◌*ℤ◌, IsTrue, refl, to_z, of_z, sym}
use mathlib.Core.Bool.{false≢true}
use mir.Syntax.{w128}
use Rattle.std.proofs.lemmas.Int.{to_z-of_z}
use Rattle.md_math.specs.Lists.{number_at}
use Rattle.md_math.proofs.Bits.{read_result}
use Rattle.md_lp.specs.Program.{right_at}
use Rattle.md_lp.specs.Point.{MeetsRow}
use Rattle.md_cert.proofs.points.broken_at.Goals as goal

pub returns-then-keeps : goal.returns-then-keeps
returns-then-keeps c =
    let den : to_z w128 (of_z w128 c.args.den) ≡ c.args.den = to_z-of_z w128 c.args.den c.ranges.den in
    let right : c.product-right.result ≡ c.args.den *ℤ right_at c.args.lp.now c.args.row = rw (den, read_result c.right.result c.right.type_inv, c.right.ensures.value) at c.product-right.ensures.value in
    let test : IsTrue c.keeps.result ↔ MeetsRow c.args.lp.now c.args.den (number_at c.args.point.now) c.args.row =
    rw (read_result c.row_sum-left.result c.row_sum-left.type_inv, read_result c.product-right.result c.product-right.type_inv, c.row_sum-left.ensures.value, right, c.kind.ensures) at c.keeps.ensures in
    test.0 c.if-keeps.true

pub returns-else-keeps : goal.returns-else-keeps
returns-else-keeps c =
    let den : to_z w128 (of_z w128 c.args.den) ≡ c.args.den = to_z-of_z w128 c.args.den c.ranges.den in
    let right : c.product-right.result ≡ c.args.den *ℤ right_at c.args.lp.now c.args.row = rw (den, read_result c.right.result c.right.type_inv, c.right.ensures.value) at c.product-right.ensures.value in
    let test : IsTrue c.keeps.result ↔ MeetsRow c.args.lp.now c.args.den (number_at c.args.point.now) c.args.row =
    rw (read_result c.row_sum-left.result c.row_sum-left.type_inv, read_result c.product-right.result c.product-right.type_inv, c.row_sum-left.ensures.value, right, c.kind.ensures) at c.keeps.ensures in
    record {
      row_is = refl;
      fails = λ h. false≢true (sym c.if-keeps.false ∙ test.1 h);
      left_is = read_result c.row_sum-left.result c.row_sum-left.type_inv ∙ c.row_sum-left.ensures.value;
      right_is = read_result c.product-right.result c.product-right.type_inv ∙ right;
    }
