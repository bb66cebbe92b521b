use Rattle.md_rows.proofs.RowForms.{if_ok}
use Rattle.md_simplex.specs.Runs.{IsLeft}
use Rattle.md_question.specs.Findings.{WhereOptimal}
use Rattle.md_question.proofs.FindingLaws.{same_program}
use Rattle.md_question_solve.specs.Found.{IsLeftFor, IsOfPoint}
use Rattle.md_question_solve.specs.Readings.{IsOfBestPoint}
use Rattle.md_question_solve.proofs.FoundLaws.{if_err, left-for, left-same, of-point}
use Rattle.md_question_solve.proofs.finding.find_question.Goals as goal

pub returns-clause-of_point : goal.returns-clause-of_point
returns-clause-of_point g c =
    let q = g.Q.Asks.asked c.args.question.now in
    let lp = c.in-Ok.lp in
    if_ok c.by_program.result (WhereOptimal (λ value m bound. IsOfBestPoint q.setting lp m)) (WhereOptimal (λ value m bound. IsOfPoint q m)) (λ finding h. of-point q lp finding c.in-Ok.ensures h)
    c.by_program.ensures.of_point

pub returns-clause-left : goal.returns-clause-left
returns-clause-left g c =
    let q = g.Q.Asks.asked c.args.question.now in
    let lp = c.in-Ok.lp in
    if_err c.by_program.result (IsLeft lp 62) (IsLeftFor q 62) (λ e h. left-for q lp 62 e c.in-Ok.ensures h) c.by_program.ensures.left

pub returns-clause-every_left : goal.returns-clause-every_left
returns-clause-every_left g c = λ p is.
    let q = g.Q.Asks.asked c.args.question.now in
    let lp = c.in-Ok.lp in
    if_err c.by_program.result (IsLeft lp 62) (IsLeft p 62) (λ e h. left-same lp p 62 e (same_program q lp p c.in-Ok.ensures is) h) c.by_program.ensures.left
