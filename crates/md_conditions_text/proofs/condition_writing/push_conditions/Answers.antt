use Rattle.md_conditions_text.proofs.WrittenConditions.{conditions-written}
use Rattle.md_conditions_text.proofs.condition_writing.push_conditions.Goals as goal

pub returns-clause-reads_back : goal.returns-clause-reads_back
returns-clause-reads_back c others ends = conditions-written c.args.setting.now c.args.conditions.now others c.as_written-accepted.ensures.accepted c.requires ends
