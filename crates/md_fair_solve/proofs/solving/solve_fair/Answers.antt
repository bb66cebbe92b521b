use Rattle.std.proofs.Common.{◌↔◌, pos, ◌≤ℤ◌, arith}
use Rattle.std.proofs.lemmas.Int.{ints}
use Rattle.md_math.specs.Sizes.{IsWithin}
use Rattle.md_setting.specs.Meaning.{total_of}
use Rattle.md_setting.proofs.MarginalLaws.{total-positive}
use Rattle.md_mech.specs.Optimal.{IsInfeasible}
use Rattle.md_mech.specs.Accepted.{number_limit}
use Rattle.md_rows.proofs.RowForms.{if_ok}
use Rattle.md_question.specs.Findings.{ClaimsUnbounded, WhereInfeasible, WhereOptimal, WhereUnbounded}
use Rattle.md_question.specs.Shown.{IsSo}
use Rattle.md_question.proofs.FindingLaws.{so-infeasible, so-optimal, so-unbounded, so-value}
use Rattle.md_question_solve.specs.Found.{IsOfPoint}
use Rattle.md_fair.specs.Bounds.{HasNoLeastBound}
use Rattle.md_fair.specs.Fairest.{GrowsFair, IsOptimalFair}
use Rattle.md_fair.specs.FairQuestion.{fair_question}
use Rattle.md_fair.specs.Least.{IsLeastValueOf, least_of}
use Rattle.md_fair.proofs.BoundLaws.{exactly_unbounded}
use Rattle.md_fair.proofs.LeastLaws.{has-least}
use Rattle.md_fair.proofs.Sizes.{some-agent}
use Rattle.md_fair_solve.proofs.NarrowLeasts.{where-narrow}
use Rattle.md_fair_solve.proofs.solving.solve_fair.Goals as goal

pub returns-clause-optimal : goal.returns-clause-optimal
returns-clause-optimal c =
    let s = c.args.setting.now in
    if_ok c.solve_question.result (IsSo (fair_question s)) (WhereOptimal (λ value mechanism bound. IsOptimalFair s mechanism)) (so-optimal (fair_question s)) c.solve_question.ensures.so

pub returns-clause-value : goal.returns-clause-value
returns-clause-value c =
    let s = c.args.setting.now in
    if_ok c.solve_question.result (IsSo (fair_question s)) (WhereOptimal (λ value mechanism bound. IsLeastValueOf s mechanism value)) (so-value (fair_question s)) c.solve_question.ensures.so

pub returns-clause-infeasible : goal.returns-clause-infeasible
returns-clause-infeasible c =
    let s = c.args.setting.now in
    if_ok c.solve_question.result (IsSo (fair_question s)) (WhereInfeasible (λ face. IsInfeasible s)) (so-infeasible (fair_question s)) c.solve_question.ensures.so

pub returns-clause-unbounded : goal.returns-clause-unbounded
returns-clause-unbounded c =
    let s = c.args.setting.now in
    if_ok c.solve_question.result (IsSo (fair_question s)) (WhereUnbounded (GrowsFair s)) (so-unbounded (fair_question s)) c.solve_question.ensures.so

pub returns-clause-has_least : goal.returns-clause-has_least
returns-clause-has_least c =
    let s = c.args.setting.now in
    λ mechanism. has-least s mechanism (some-agent s c.space-shaped.ensures.shaped)

pub returns-clause-narrow : goal.returns-clause-narrow
returns-clause-narrow c =
    let s = c.args.setting.now in
    if_ok c.solve_question.result (WhereOptimal (λ value m bound. IsOfPoint (fair_question s) m)) (WhereOptimal (λ value m bound. IsWithin number_limit (least_of s m)))
    (λ finding h. where-narrow s finding (some-agent s c.space-shaped.ensures.shaped) h) c.solve_question.ensures.of_point

pub returns-clause-no_bound : goal.returns-clause-no_bound
returns-clause-no_bound c =
    let s = c.args.setting.now in
    let total : pos 1 ≤ℤ total_of s = omega (arith, ints, total-positive s c.space-shaped.ensures.shaped) in
    if_ok c.solve_question.result (IsSo (fair_question s)) (λ answer. ClaimsUnbounded answer ↔ HasNoLeastBound s) (λ answer so. exactly_unbounded s answer total so) c.solve_question.ensures.so
