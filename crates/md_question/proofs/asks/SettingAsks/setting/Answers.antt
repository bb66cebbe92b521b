use Rattle.md_question.proofs.BestLaws.{IsQuestion-best}
use Rattle.md_question.proofs.asks.SettingAsks.setting.Goals as goal

pub returns-clause-laws : goal.returns-clause-laws
returns-clause-laws c = IsQuestion-best c.args.self.now c.space-shaped.ensures.shaped
