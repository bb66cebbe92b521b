use Rattle.std.proofs.Common.{◌∙◌, ap, codes}
use Rattle.std.proofs.lemmas.Result.{IfOk-weaker}
use Rattle.clap.specs.Words.{App}
use Rattle.md_cli_words.specs.Forms.{with_place}
use Rattle.md_cli_words.proofs.form.with_draws.Goals as goal

pub returns : goal.returns
returns c = IfOk-weaker c.with_place.result _ _ (λ more h. h ∙ ap (λ (a : App). with_place a (codes "second_draw")) c.in_ok-first.ensures) c.with_place.ensures
