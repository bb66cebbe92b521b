use Rattle.std.proofs.Common.{ap, codes, [], ◌∷◌, ◌∙◌}
use Rattle.std.proofs.lemmas.Result.{IfOk-weaker}
use Rattle.md_num.specs.WholeText.{text_of}
use Rattle.md_cli_judge.specs.Verdicts.{rejected}
use Rattle.md_cli_judge.proofs.DetermRows.{row_at}
use Rattle.md_cli_judge.proofs.determ_check.broken_record.Goals as goal

pub returns : goal.returns
returns c =
    let broken = c.args.broken in
    let at = row_at c.args.setting.now broken.row c.requires in
    let named = c.deref.ensures.value ∙ c.in_ok-name.ensures at.0 at.1 in
    IfOk-weaker c.named_record.result _ _
    (λ fields is. (at.0, at.1, is ∙ ap (λ name. rejected (codes "12") (name ∷ text_of broken.left ∷ text_of broken.right ∷ [])) named))
    c.named_record.ensures
