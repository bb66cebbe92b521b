use Rattle.md_setting.proofs.MarginalLaws.{total-positive}
use Rattle.md_determ.proofs.Decided.{values-compare}
use Rattle.md_determ.proofs.rules.is_worth_at_most.Goals as goal

pub returns : goal.returns
returns c =
    let s = c.args.setting.now in
    let order =
    values-compare s c.args.mechanism.now c.args.other.now c.worth.result c.worth-2.result (total-positive s c.space-shaped.ensures.shaped) c.requires.accepted.mechanism c.requires.other.mechanism
    c.worth.ensures.value c.worth-2.ensures.value in
    (λ h. order.0 (c.at_most.ensures.0 h), λ h. c.at_most.ensures.1 (order.1 h))
