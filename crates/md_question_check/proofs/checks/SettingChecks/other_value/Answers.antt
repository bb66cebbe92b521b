use Rattle.md_question_check.proofs.VerdictLaws.{if_other}
use Rattle.md_question_check.proofs.checks.SettingChecks.other_value.Goals as goal

pub returns : goal.returns
returns c = if_other c.args.self.now c.args.mechanism.now c.args.printed.now c.other_value.result c.other_value.ensures.value
