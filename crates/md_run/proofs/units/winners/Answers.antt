use Rattle.std.proofs.Common.{◌≡◌, ◌<◌, ◌++◌, ◌∷◌, [], ℕ, List, to_z, of_z, length, add-one, refl, sym, ap, ap₂, ◌∙◌, subst, arith}
use Rattle.std.specs.Prelude.{slice_index, unsigned_abs}
use Rattle.std.proofs.lemmas.Int.{to_z-of_z}
use mir.Syntax.{w128}
use Rattle.md_math.specs.Lists.{list_to}
use Rattle.md_math.proofs.Bits.{read_result}
use Rattle.md_math.proofs.Builders.{list_to-more}
use Rattle.md_setting.specs.Auction.{SymmetricAuction, value_count}
use Rattle.md_counts.proofs.ListsOfValues.{one_rank}
use Rattle.md_expost.proofs.Winners.{value-below}
use Rattle.md_winners.specs.Draws.{start_of, wins}
use Rattle.md_run.specs.OfMasses.{AreReports}
use Rattle.md_run.specs.OfUnits.{draws_for, stretch_of}
use Rattle.md_run.proofs.LeftLaws.{IsLeft, left-wins, left-more}
use Rattle.md_run.proofs.ReportLaws.{count_in-before, reports-length}
use Rattle.md_run.proofs.ScaleLaws.{same-tests}
use Rattle.md_run.proofs.UnitLaws.{stretches-fit, inside-draws}
use Rattle.md_run.proofs.units.winners.Goals as goal

inside : (a : SymmetricAuction) (t : List ℕ) (i : ℕ) → AreReports a t → i < length t → i < a.bidders
inside a t i p b = omega (arith, b, reports-length a.bidders (value_count a) t p)

pub stretch-stretch-requires-clause-report_in : goal.stretch-stretch-requires-clause-report_in
stretch-stretch-requires-clause-report_in c =
    let a = c.args.auction.now in
    let t = c.args.profile.now in
    value-below a.bidders (value_count a) t c.loop-report.report-index c.requires.reports (inside a t c.loop-report.report-index c.requires.reports c.loop-report-test.true)

pub stretch-stretch-requires-clause-some : goal.stretch-stretch-requires-clause-some
stretch-stretch-requires-clause-some c =
    let t = c.args.profile.now in
    let v = slice_index t c.loop-report.report-index in
    omega (arith, count_in-before v t c.loop-report.report-index c.loop-report-test.true refl)

pub left_after-left-requires-clause-stretch : goal.left_after-left-requires-clause-stretch
left_after-left-requires-clause-stretch c =
    let a = c.args.auction.now in
    let y = c.args.masses.now in
    let t = c.args.profile.now in
    let i = c.loop-report.report-index in
    let p = c.requires.reports in
    let fit = stretches-fit a c.requires.masses.0 y t c.stretch-stretch.ensures.shaped c.requires.masses.1 p (one_rank a.bidders (value_count a) t p) in
    rw (read_result c.stretch-stretch.result c.stretch-stretch.type_inv ∙ c.stretch-stretch.ensures.value, to_z-of_z w128 c.args.draws c.ranges.draws ∙ c.requires.draws)
    (inside-draws (stretch_of a y t i) (draws_for a y.den t) (fit.each i (inside a t i p c.loop-report-test.true)))

pub left_after-left-requires-clause-size : goal.left_after-left-requires-clause-size
left_after-left-requires-clause-size c = rw (to_z-of_z w128 c.args.draws c.ranges.draws) c.requires.size

pub loop-report-preserved : goal.loop-report-preserved
loop-report-preserved c =
    let a = c.args.auction.now in
    let y = c.args.masses.now in
    let t = c.args.profile.now in
    let i = c.loop-report.report-index in
    let p = c.requires.reports in
    let x = stretch_of a y t in
    let whole = draws_for a y.den t in
    let d = unsigned_abs (to_z w128 (of_z w128 c.args.draw)) in
    let fit = stretches-fit a c.requires.masses.0 y t c.stretch-stretch.ensures.shaped c.requires.masses.1 p (one_rank a.bidders (value_count a) t p) in
    let each = fit.each i (inside a t i p c.loop-report-test.true) in
    let stretch = read_result c.stretch-stretch.result c.stretch-stretch.type_inv ∙ c.stretch-stretch.ensures.value in
    let draws = to_z-of_z w128 c.args.draws c.ranges.draws ∙ c.requires.draws in
    let left : IsLeft whole d (start_of x i) (to_z w128 c.loop-report.left-bits) = c.loop-report.invariant.1 in
    let wins_is = left-wins whole x d i (to_z w128 c.loop-report.left-bits) fit.some each left in
    let less = rw stretch at c.is_less.ensures in
    let same : c.is_less.result ≡ wins whole x d i = same-tests c.is_less.result (wins whole x d i) (λ h. wins_is.0 (less.0 h)) (λ h. less.1 (wins_is.1 h)) in
    let next = rw (stretch, draws) at c.left_after-left.ensures in (
      c.in_ok-push.ensures.items ∙ ap₂ (λ xs b. xs ++ b ∷ []) c.loop-report.invariant.0 same ∙ sym (list_to-more i (wins whole x d)),
      rw (read_result c.left_after-left.result c.left_after-left.type_inv)
          (subst (λ n. IsLeft whole d (start_of x n) c.left_after-left.result) (sym (add-one i)) (left-more whole d (start_of x i) (x i) (to_z w128 c.loop-report.left-bits) c.left_after-left.result each left next)),
    )

pub returns : goal.returns
returns c =
    let a = c.args.auction.now in
    let t = c.args.profile.now in
    let draw = to_z-of_z w128 c.args.draw c.ranges.draw in
    let end : c.loop-report.report-index ≡ a.bidders = omega (arith, c.loop-report-test.false, c.loop-report.auto.report-index-end, reports-length a.bidders (value_count a) t c.requires.reports) in
    let all = rw draw at c.loop-report.invariant.0 in
    all ∙ ap (λ n. list_to n (wins (draws_for a c.args.masses.now.den t) (stretch_of a c.args.masses.now t) (unsigned_abs c.args.draw))) end
