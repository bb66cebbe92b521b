use Rattle.std.proofs.Common.{◌^◌}
use Rattle.std.proofs.lemmas.Result.{MatchResult-weaker}
use Rattle.md_tree.proofs.AnswersJudged.{optimal-judged, optimal-fails}
use Rattle.md_tree.proofs.Fewer.{fewer-left}
use Rattle.md_tree.proofs.answer_judging.judge_optimal.Goals as goal

pub judge_tree-requires-clause-few : goal.judge_tree-requires-clause-few
judge_tree-requires-clause-few c =
    fewer-left c.args.setting.now c.args.reader.now c.read_value.new.reader c.read_mechanism.new.reader c.in_ok-value.value c.in_ok-mechanism.mechanism (2 ^ 64) c.in_ok-value.ensures.read c.in_ok-mechanism.ensures.read c.requires.few

pub returns : goal.returns
returns c =
    let s = c.args.setting.now in
    let old = c.args.reader.now in
    let mid = c.read_value.new.reader in
    let now = c.read_mechanism.new.reader in
    let value = c.in_ok-value.value in
    let m = c.in_ok-mechanism.mechanism in
    MatchResult-weaker c.judge_tree.result c.judge_tree.ensures
    (λ last h. optimal-judged s value m c.args.known c.judge_rule-ruled.result last old mid now c.judge_tree.new.reader c.in_ok-value.ensures.read c.in_ok-mechanism.ensures.read c.in_ok-value.ensures.fraction c.in_ok-mechanism.ensures.accepted c.judge_rule-ruled.ensures h)
    (λ refusal fails ne. optimal-fails s value m old mid now refusal c.in_ok-value.ensures.read c.in_ok-mechanism.ensures.read (fails ne))
