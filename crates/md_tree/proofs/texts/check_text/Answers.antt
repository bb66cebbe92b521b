use Rattle.std.proofs.Common.{ℤ, pos, ◌<ℤ◌, subst}
use Rattle.std.proofs.lemmas.Result.{MatchResult-weaker}
use Rattle.md_tree.proofs.AnswersJudged.{text-checked}
use Rattle.md_tree.proofs.texts.check_text.Goals as goal

pub returns : goal.returns
returns c =
    let total = subst (λ (n : ℤ). pos 0 <ℤ n) c.total-positive.ensures.value c.total-positive.ensures.positive in
    MatchResult-weaker c.judge_text.result c.judge_text.ensures (λ verdict h. text-checked c.args.setting.now c.args.bytes.now verdict total h) (λ refusal fails. fails)
