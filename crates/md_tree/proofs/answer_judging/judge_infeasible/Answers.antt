use Rattle.std.proofs.lemmas.Result.{MatchResult-weaker}
use Rattle.md_tree.proofs.AnswersJudged.{infeasible-judged, infeasible-fails}
use Rattle.md_tree.proofs.answer_judging.judge_infeasible.Goals as goal

pub returns : goal.returns
returns c =
    let s = c.args.setting.now in
    let old = c.args.reader.now in
    MatchResult-weaker c.judge_tree.result c.judge_tree.ensures
    (λ last h. infeasible-judged s c.args.known last old c.judge_tree.new.reader h)
    (λ refusal fails ne. infeasible-fails s old refusal (fails ne))
