use Rattle.std.proofs.Common.{sym, ◌∙◌}
use Rattle.md_asym_sale.proofs.ConditionLaws.{own-below, own-none, own-some}
use Rattle.md_asym_sale.proofs.condition.own_condition_at.Goals as goal

pub condition_at-condition-requires : goal.condition_at-condition-requires
condition_at-condition-requires c = own-below c.args.setting.now c.args.row c.requires.sale c.requires.row

pub unreachable-requires : goal.unreachable-requires
unreachable-requires c =
    own-none c.args.setting.now c.args.row c.condition_at-condition.result c.requires.sale c.requires.row c.condition_at-condition.ensures (sym c.agent_condition.ensures ∙ c.in-None.is)

pub returns : goal.returns
returns c =
    own-some c.args.setting.now c.args.row c.condition_at-condition.result c.in-Some.condition c.requires.sale c.requires.row c.condition_at-condition.ensures (sym c.agent_condition.ensures ∙ c.in-Some.is)
