use Rattle.md_tree.proofs.JudgeLaws.{rule-judged}
use Rattle.md_tree.proofs.rule_judging.judge_rule.Goals as goal

pub returns : goal.returns
returns c known tree last h = rule-judged c.args.setting.now c.args.value.now c.args.mechanism.now tree last c.in_default.ensures c.in_default-other_value.ensures.value h
