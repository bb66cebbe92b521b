use Rattle.std.proofs.Common.{subst}
use Rattle.std.specs.Prelude.{IfErr}
use Rattle.md_simplex.specs.Runs.{IsLeft}
use Rattle.md_question.specs.Certified.{IsCertifiedFinding}
use Rattle.md_question.specs.Shown.{IsFindingTo}
use Rattle.md_question_solve.specs.Found.{IsFoundBy}
use Rattle.md_question_solve.proofs.FoundLaws.{certified-found, if_both}
use Rattle.md_question_solve.proofs.finding.on_paths.Goals as goal

pub returns-clause-finding : goal.returns-clause-finding
returns-clause-finding g c =
    let q = g.Q.Asks.asked c.args.question.now in
    let p = c.args.lp.now in
    let width = c.greatest_width.result in
    if_both c.found.result (IsFoundBy q p width) (IsFindingTo q) (IsCertifiedFinding q) (λ finding h writable. certified-found q c.found.ensures.laws p width finding c.requires h writable)
    c.found.ensures.found c.found.ensures.writable

pub returns-clause-left : goal.returns-clause-left
returns-clause-left g c = subst (λ width. IfErr c.found.result (IsLeft c.args.lp.now width)) c.greatest_width.ensures c.found.ensures.left
