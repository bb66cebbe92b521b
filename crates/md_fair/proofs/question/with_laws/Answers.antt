use Rattle.md_fair.proofs.QuestionLaws.{IsQuestion-fair}
use Rattle.md_fair.proofs.question.with_laws.Goals as goal

pub returns-clause-laws : goal.returns-clause-laws
returns-clause-laws c = IsQuestion-fair c.args.setting.now c.space-shaped.ensures.shaped
