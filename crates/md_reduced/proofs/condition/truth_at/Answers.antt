use Rattle.md_reduced.proofs.ConditionLaws.{truth-at}
use Rattle.md_reduced.proofs.condition.truth_at.Goals as goal

pub returns : goal.returns
returns c = truth-at c.args.kinds c.args.number c.other_kind.result c.requires.number c.other_kind.ensures
