use Rattle.md_require.proofs.QuestionLaws.{IsQuestion-require}
use Rattle.md_require.proofs.question.with_laws.Goals as goal

pub returns-clause-laws : goal.returns-clause-laws
returns-clause-laws c = IsQuestion-require c.args.setting.now c.args.conditions.now c.space-shaped.ensures.shaped (λ k d l. (c.requires.each k d l).place)
