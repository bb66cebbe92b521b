use Rattle.std.proofs.Common.{◌≡◌, ◌↔◌}
use Rattle.md_rows.proofs.RowForms.{if_ok}
use Rattle.md_simplex.specs.declared.order.Order.TheVariants.{Forward, Backward}
use Rattle.md_simplex.specs.Runs.{IsLeft}
use Rattle.md_simplex.proofs.SamePaths.{first_wide-same, meets-same, taken-same}
use Rattle.md_question.specs.Findings.{ClaimsInfeasible, WhereOptimal, WhereUnbounded}
use Rattle.md_question.specs.Question.{AdmitsNone}
use Rattle.md_question.specs.Shown.{IsShown, IsSo}
use Rattle.md_question.proofs.FindingLaws.{exactly_infeasible, same_program, shown-every, so-admitted}
use Rattle.md_question_solve.specs.Found.{IsFound, IsFoundBy, IsLeftFor, IsOfPoint}
use Rattle.md_question_solve.specs.Readings.{IsOfBestPoint}
use Rattle.md_question_solve.proofs.FoundLaws.{first_wide-of, found-same, if_err, left-for, left-same, of-point, one-finding, shown, so, taken-of, wide-of}
use Rattle.md_question_solve.proofs.solving.solve_question.Goals as goal

pub returns-clause-solved : goal.returns-clause-solved
returns-clause-solved g c =
    let q = g.Q.Asks.asked c.args.question.now in
    let lp = c.in-Ok.lp in
    if_ok c.found.result (IsFoundBy q lp c.args.width) (IsFound q c.args.width) (λ a h. record { program = lp; is_program = c.in-Ok.ensures; found = h }) c.found.ensures.found

pub returns-clause-only : goal.returns-clause-only
returns-clause-only g c = λ other solved.
    let q = g.Q.Asks.asked c.args.question.now in
    let lp = c.in-Ok.lp in
    if_ok c.found.result (IsFoundBy q lp c.args.width) (λ a. a ≡ other)
    (λ a h. one-finding q c.found.ensures.laws lp c.args.width a other c.in-Ok.ensures h (found-same q solved.program lp c.args.width other solved.is_program c.in-Ok.ensures solved.found)) c.found.ensures.found

pub returns-clause-so : goal.returns-clause-so
returns-clause-so g c =
    let q = g.Q.Asks.asked c.args.question.now in
    let lp = c.in-Ok.lp in
    if_ok c.found.result (IsFoundBy q lp c.args.width) (IsSo q) (λ a h. so q c.found.ensures.laws lp c.args.width a c.in-Ok.ensures h) c.found.ensures.found

pub returns-clause-admitted : goal.returns-clause-admitted
returns-clause-admitted g c =
    let q = g.Q.Asks.asked c.args.question.now in
    let lp = c.in-Ok.lp in
    if_ok c.found.result (IsFoundBy q lp c.args.width) (WhereUnbounded (λ mechanism ray. q.admits mechanism))
    (λ a h. so-admitted q c.found.ensures.laws a (so q c.found.ensures.laws lp c.args.width a c.in-Ok.ensures h)) c.found.ensures.found

pub returns-clause-of_point : goal.returns-clause-of_point
returns-clause-of_point g c =
    let q = g.Q.Asks.asked c.args.question.now in
    let lp = c.in-Ok.lp in
    if_ok c.found.result (WhereOptimal (λ value m bound. IsOfBestPoint q.setting lp m)) (WhereOptimal (λ value m bound. IsOfPoint q m)) (λ finding h. of-point q lp finding c.in-Ok.ensures h)
    c.found.ensures.of_point

pub returns-clause-taken : goal.returns-clause-taken
returns-clause-taken g c = λ p order pivots step is taken.
    let q = g.Q.Asks.asked c.args.question.now in
    let lp = c.in-Ok.lp in
    taken-of q lp c.args.width c.found.result c.found.ensures.found c.found.ensures.left order pivots step (taken-same p lp (same_program q p lp is c.in-Ok.ensures) order c.args.width pivots step taken)

pub returns-clause-none : goal.returns-clause-none
returns-clause-none g c =
    let q = g.Q.Asks.asked c.args.question.now in
    let lp = c.in-Ok.lp in
    if_ok c.found.result (IsFoundBy q lp c.args.width) (λ a. ClaimsInfeasible a ↔ AdmitsNone q)
    (λ a h. exactly_infeasible q c.found.ensures.laws a (so q c.found.ensures.laws lp c.args.width a c.in-Ok.ensures h)) c.found.ensures.found

pub returns-clause-wide : goal.returns-clause-wide
returns-clause-wide g c = λ p is forward backward.
    let q = g.Q.Asks.asked c.args.question.now in
    let lp = c.in-Ok.lp in
    let same = same_program q p lp is c.in-Ok.ensures in
    wide-of q lp c.args.width c.found.result c.found.ensures.found (meets-same p lp same Forward c.args.width forward) (meets-same p lp same Backward c.args.width backward)

pub returns-clause-left : goal.returns-clause-left
returns-clause-left g c =
    let q = g.Q.Asks.asked c.args.question.now in
    let lp = c.in-Ok.lp in
    if_err c.found.result (IsLeft lp c.args.width) (IsLeftFor q c.args.width) (λ e h. left-for q lp c.args.width e c.in-Ok.ensures h) c.found.ensures.left

pub returns-clause-every_left : goal.returns-clause-every_left
returns-clause-every_left g c = λ p is.
    let q = g.Q.Asks.asked c.args.question.now in
    let lp = c.in-Ok.lp in
    if_err c.found.result (IsLeft lp c.args.width) (IsLeft p c.args.width) (λ e h. left-same lp p c.args.width e (same_program q lp p c.in-Ok.ensures is) h) c.found.ensures.left

pub returns-clause-first_wide : goal.returns-clause-first_wide
returns-clause-first_wide g c = λ p first second is forward backward.
    let q = g.Q.Asks.asked c.args.question.now in
    let lp = c.in-Ok.lp in
    let same = same_program q p lp is c.in-Ok.ensures in
    first_wide-of q lp c.args.width c.found.result c.found.ensures.left first second (first_wide-same p lp same Forward c.args.width first.path first.entry forward)
    (first_wide-same p lp same Backward c.args.width second.path second.entry backward)

pub returns-clause-every_program : goal.returns-clause-every_program
returns-clause-every_program g c = λ p is.
    let q = g.Q.Asks.asked c.args.question.now in
    let lp = c.in-Ok.lp in
    if_ok c.found.result (IsFoundBy q lp c.args.width) (IsFoundBy q p c.args.width) (λ a h. found-same q lp p c.args.width a c.in-Ok.ensures is h) c.found.ensures.found

pub returns-clause-shown : goal.returns-clause-shown
returns-clause-shown g c = λ p is.
    let q = g.Q.Asks.asked c.args.question.now in
    let lp = c.in-Ok.lp in
    if_ok c.found.result (IsFoundBy q lp c.args.width) (IsShown q p)
    (λ a h. shown-every q lp p a c.in-Ok.ensures is (shown q c.found.ensures.laws lp c.args.width a c.in-Ok.ensures h)) c.found.ensures.found
