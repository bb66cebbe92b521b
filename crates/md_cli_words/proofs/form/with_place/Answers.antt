use Rattle.std.proofs.Common.{◌≡◌, ◌∙◌, ap, rules}
use Rattle.std.specs.Prelude.{true}
use Rattle.std.proofs.lemmas.Result.{IfOk-weaker}
use Rattle.clap.specs.Words.{Rule, app_of, rule_of, with_rule}
use Rattle.md_cli_words.specs.Forms.{place_rule}
use Rattle.md_cli_words.proofs.form.with_place.Goals as goal

pub returns : goal.returns
returns c =
    let made : rule_of c.required-place.result ≡ place_rule c.args.id.now =
    ap rule_of c.required-place.ensures ∙ ap (λ (r : Rule). record r { required = true }) c.new.ensures.rule in
    IfOk-weaker c.arg.result _ _ (λ more h. h.shape (search rules) ∙ ap (with_rule (app_of c.args.command)) made) c.arg.ensures
