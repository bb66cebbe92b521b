use Rattle.md_gen.specs.GeneratedSetting.{generated_setting}
use Rattle.md_gen.proofs.MadeLaws.{same_setting}
use Rattle.md_gen.proofs.general.raw_setting.Goals as goal

pub returns : goal.returns
unfolding generated_setting
returns c = same_setting _ _ _ _ _ _ c.in_ok-agents.ensures c.in_ok-outcomes.ensures c.in_ok-worths.ensures
