use Rattle.std.proofs.Common.{◌≡◌, ◌∙◌, ◌↔◌, ◌<◌, ◌+◌, ◌-◌, ◌^◌, IsTrue, length, to_z, of_z, lit<, subst, sym, arith}
use mathlib.Core.Bool.{false≢true}
use mir.Syntax.{w128}
use Rattle.md_math.specs.FirstFailure.{HoldsBelow}
use Rattle.md_math.specs.Lists.{number_at}
use Rattle.md_math.proofs.FirstFailures.{HoldsBelow-more}
use Rattle.md_math.proofs.Bits.{read_within, read_result}
use Rattle.md_lp.specs.Point.{column_sum}
use Rattle.md_cert.specs.Certified.{ColumnHolds, reduced_cost}
use Rattle.md_cert.proofs.columns.wrong_column_in_run.Goals as goal

pub returns-then-not-is_lex_nonneg : goal.returns-then-not-is_lex_nonneg
returns-then-not-is_lex_nonneg c =
    let p = c.args.lp.now in
    let bound = c.args.bound.now in
    let j = c.loop-place.place in
    let column = c.args.first + j in
    let faces = c.column_sums.new.sums in
    let mains = c.column_sums-2.new.sums in
    let face_in : j < length faces = c.loop-place-test.true in
    let main_in : j < length mains = omega (arith, face_in, c.column_sums.auto.sums, c.column_sums-2.auto.sums, c.requires.same) in
    let sum = number_at faces j in
    let other = number_at mains j in
    let over : to_z w128 (of_z w128 bound.den) ≡ bound.den = read_within (2 ^ 62 - 1) bound.den c.requires.fits.den.size (lit< tt) in
    let sum_back : to_z w128 (of_z w128 sum) ≡ sum = read_within (2 ^ 119) sum (c.column_sums.ensures.size.at j face_in) (lit< tt) in
    let other_back : to_z w128 (of_z w128 other) ≡ other = read_within (2 ^ 119) other (c.column_sums-2.ensures.size.at j main_in) (lit< tt) in
    let face : sum ≡ column_sum p (number_at bound.face) column = c.column_sums.ensures.value.at j face_in in
    let main : other ≡ column_sum p (number_at bound.main) column = c.column_sums-2.ensures.value.at j main_in in
    let reduced : c.reduced_cost-main.result ≡ reduced_cost p bound.den (number_at bound.main) column = rw (other_back, over, main) at c.reduced_cost-main.ensures in
    let test : IsTrue c.is_lex_nonneg.result ↔ ColumnHolds p bound.den (number_at bound.face) (number_at bound.main) column =
    rw (sum_back, read_result c.reduced_cost-main.result c.reduced_cost-main.type_inv, face, reduced) at c.is_lex_nonneg.ensures in
    record {
      first = record {
        below = omega (arith, face_in, c.column_sums.auto.sums, c.requires.run);
        fails = λ h. false≢true (sym c.if-not-is_lex_nonneg.true ∙ test.1 h);
        before = c.loop-place.invariant;
      };
      face_is = sum_back ∙ face;
      main_is = read_result c.reduced_cost-main.result c.reduced_cost-main.type_inv ∙ reduced;
    }

pub loop-place-preserved : goal.loop-place-preserved
loop-place-preserved c =
    let p = c.args.lp.now in
    let bound = c.args.bound.now in
    let j = c.loop-place.place in
    let column = c.args.first + j in
    let faces = c.column_sums.new.sums in
    let mains = c.column_sums-2.new.sums in
    let face_in : j < length faces = c.loop-place-test.true in
    let main_in : j < length mains = omega (arith, face_in, c.column_sums.auto.sums, c.column_sums-2.auto.sums, c.requires.same) in
    let sum = number_at faces j in
    let other = number_at mains j in
    let over : to_z w128 (of_z w128 bound.den) ≡ bound.den = read_within (2 ^ 62 - 1) bound.den c.requires.fits.den.size (lit< tt) in
    let sum_back : to_z w128 (of_z w128 sum) ≡ sum = read_within (2 ^ 119) sum (c.column_sums.ensures.size.at j face_in) (lit< tt) in
    let other_back : to_z w128 (of_z w128 other) ≡ other = read_within (2 ^ 119) other (c.column_sums-2.ensures.size.at j main_in) (lit< tt) in
    let face : sum ≡ column_sum p (number_at bound.face) column = c.column_sums.ensures.value.at j face_in in
    let main : other ≡ column_sum p (number_at bound.main) column = c.column_sums-2.ensures.value.at j main_in in
    let reduced : c.reduced_cost-main.result ≡ reduced_cost p bound.den (number_at bound.main) column = rw (other_back, over, main) at c.reduced_cost-main.ensures in
    let test : IsTrue c.is_lex_nonneg.result ↔ ColumnHolds p bound.den (number_at bound.face) (number_at bound.main) column =
    rw (sum_back, read_result c.reduced_cost-main.result c.reduced_cost-main.type_inv, face, reduced) at c.is_lex_nonneg.ensures in
    let holds = ColumnHolds p bound.den (number_at bound.face) (number_at bound.main) in
    let more : column + 1 ≡ c.args.first + (j + 1) = omega arith in
    subst (λ n. HoldsBelow n holds) more (HoldsBelow-more holds column c.loop-place.invariant (test.0 c.if-not-is_lex_nonneg.false))
