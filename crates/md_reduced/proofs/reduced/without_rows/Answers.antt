use Rattle.std.proofs.Common.{ap, ◌∙◌, inl, inr, Err}
use Rattle.md_reduced.proofs.CostLaws.{cost-length, cost-within, has-cost}
use Rattle.md_reduced.proofs.reduced.without_rows.Goals as goal

pub new-requires-clause-one_each : goal.new-requires-clause-one_each
new-requires-clause-one_each c = rw (c.in_ok-cost.ensures, c.kinds.ensures.count) (cost-length c.args.auction.now)

pub want_of-requires : goal.want_of-requires
want_of-requires c =
    let a = c.args.auction.now in
    elim c.in-Err.ensures.other [
      | inl large ↦ absurd ((rw c.in_ok-cost.ensures at c.new.ensures.magnitude).0 (c.in-Err.is ∙ ap Err large) (cost-within a c.kinds.ensures.shaped))
      | inr memory ↦ memory
    ]

pub returns-in-Ok-clause-cost : goal.returns-in-Ok-clause-cost
returns-in-Ok-clause-cost c =
    let a = c.args.auction.now in
    has-cost a c.in-Ok.lp (rw (c.in_ok-cost.ensures, c.kinds.ensures.count) at c.in-Ok.ensures.ok)
