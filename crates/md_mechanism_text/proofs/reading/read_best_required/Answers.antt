use Rattle.std.proofs.Common.{subst, sym}
use Rattle.md_question.specs.Shown.{IsFindingTo}
use Rattle.md_require.specs.RequireQuestion.{require_question}
use Rattle.md_mechanism_text.specs.Proposals.{AreAsked}
use Rattle.md_mechanism_text.proofs.reading.read_best_required.Goals as goal

pub returns-clause-fits : goal.returns-clause-fits
returns-clause-fits c =
    let s = c.args.setting.now in
    let answer = c.in_ok-answer.answer in
    let fits = c.in_ok-answer.ensures.fits in
    let asked : AreAsked s answer.conditions = record { each = fits.conditions.each; few = fits.conditions.few } in
    c.proposed_under.ensures.fits s (subst (AreAsked s) (sym c.into_parts-conditions.ensures.conditions) asked)
    (c.mechanism_found.ensures.required s answer.conditions (subst (IsFindingTo (require_question s answer.conditions)) (sym c.into_parts-conditions.ensures.finding) fits.finding))
