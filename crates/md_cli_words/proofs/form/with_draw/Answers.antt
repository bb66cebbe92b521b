use Rattle.std.proofs.Common.{◌∙◌, ap, codes}
use Rattle.std.proofs.lemmas.Result.{IfOk-weaker}
use Rattle.clap.specs.Words.{App}
use Rattle.md_cli_words.specs.Forms.{with_place}
use Rattle.md_cli_words.proofs.form.with_draw.Goals as goal

pub returns : goal.returns
returns c =
    IfOk-weaker c.with_place-2.result _ _
    (λ more h. h ∙ ap (λ (a : App). with_place a (codes "first_draw")) c.in_ok-profile.ensures)
    c.with_place-2.ensures
