use Rattle.std.proofs.Common.{ap, ◌∙◌, inl, inr, Err}
use Rattle.md_asym_sale.proofs.CostLaws.{cost-length, cost-within, has-cost}
use Rattle.md_asym_sale.proofs.sale_program.without_rows.Goals as goal

pub new-requires-clause-one_each : goal.new-requires-clause-one_each
new-requires-clause-one_each c = rw (c.in_ok-cost.ensures, c.pair_count.ensures.value) (cost-length c.args.setting.now)

pub want_of-requires : goal.want_of-requires
want_of-requires c =
    let s = c.args.setting.now in
    elim c.in-Err.ensures.other [
      | inl large ↦ absurd ((rw c.in_ok-cost.ensures at c.new.ensures.magnitude).0 (c.in-Err.is ∙ ap Err large) (cost-within s c.requires c.pair_count.ensures.shaped))
      | inr memory ↦ memory
    ]

pub returns-in-Ok-clause-cost : goal.returns-in-Ok-clause-cost
returns-in-Ok-clause-cost c =
    let s = c.args.setting.now in
    has-cost s c.in-Ok.lp (rw (c.in_ok-cost.ensures, c.pair_count.ensures.value) at c.in-Ok.ensures.ok)
