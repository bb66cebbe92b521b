use Rattle.std.proofs.Common.{◌↔◌, pos, ◌≤ℤ◌, arith}
use Rattle.std.proofs.lemmas.Int.{ints}
use Rattle.md_math.specs.Sizes.{IsWithin}
use Rattle.md_setting.specs.Meaning.{total_of}
use Rattle.md_setting.proofs.MarginalLaws.{total-positive}
use Rattle.md_mech.specs.Accepted.{number_limit}
use Rattle.md_rows.proofs.RowForms.{if_ok}
use Rattle.md_question.specs.Certified.{IsCertifiedFinding}
use Rattle.md_question.specs.Findings.{ClaimsUnbounded, WhereOptimal}
use Rattle.md_question_solve.specs.Found.{IsOfPoint}
use Rattle.md_fair.specs.Bounds.{HasNoLeastBound}
use Rattle.md_fair.specs.FairQuestion.{fair_question}
use Rattle.md_fair.specs.Least.{least_of}
use Rattle.md_fair.proofs.BoundLaws.{exactly_unbounded}
use Rattle.md_fair.proofs.Sizes.{some-agent}
use Rattle.md_fair_solve.proofs.NarrowLeasts.{where-narrow}
use Rattle.md_fair_solve.proofs.solving.find_fair.Goals as goal

pub returns-clause-narrow : goal.returns-clause-narrow
returns-clause-narrow c =
    let s = c.args.setting.now in
    if_ok c.find_question.result (WhereOptimal (λ value m bound. IsOfPoint (fair_question s) m)) (WhereOptimal (λ value m bound. IsWithin number_limit (least_of s m)))
    (λ finding h. where-narrow s finding (some-agent s c.space-shaped.ensures.shaped) h) c.find_question.ensures.of_point

pub returns-clause-no_bound : goal.returns-clause-no_bound
returns-clause-no_bound c =
    let s = c.args.setting.now in
    let total : pos 1 ≤ℤ total_of s = omega (arith, ints, total-positive s c.space-shaped.ensures.shaped) in
    if_ok c.find_question.result (IsCertifiedFinding (fair_question s)) (λ finding. ClaimsUnbounded finding ↔ HasNoLeastBound s) (λ finding h. exactly_unbounded s finding total h.so) c.find_question.ensures.certified
