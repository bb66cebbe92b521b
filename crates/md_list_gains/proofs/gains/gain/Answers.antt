use Rattle.md_list_gains.proofs.Shorts.{short-fits, read-short}
use Rattle.md_list_gains.proofs.GainSteps.{step-short, revenue-short, gain-short}
use Rattle.md_list_gains.proofs.gains.gain.Goals as goal

pub overflow_sub-result : goal.overflow_sub-result
overflow_sub-result c =
    short-fits _ _
    (step-short c.args.auction.now c.args.group c.own.ensures.shaped c.requires.group c.args.value c.requires.value _ _ _ c.revenue.type_inv c.revenue.ensures.value c.paid_from.type_inv c.paid_from.ensures.value c.paid_from-2.type_inv c.paid_from-2.ensures.value)

pub overflow_mul-result : goal.overflow_mul-result
overflow_mul-result c =
    short-fits _ _
    (revenue-short c.args.auction.now c.args.group c.own.ensures.shaped c.requires.group c.args.value c.requires.value _ _ _ c.revenue.type_inv c.revenue.ensures.value c.paid_from.type_inv c.paid_from.ensures.value c.paid_from-2.type_inv c.paid_from-2.ensures.value)

pub overflow_add-result : goal.overflow_add-result
overflow_add-result c =
    short-fits _ _
    (gain-short c.args.auction.now c.args.group c.own.ensures.shaped c.requires.group c.args.value c.requires.value _ _ _ c.revenue.type_inv c.revenue.ensures.value c.paid_from.type_inv c.paid_from.ensures.value c.paid_from-2.type_inv c.paid_from-2.ensures.value _ c.own.type_inv c.own.ensures.value)

pub returns-clause-value : goal.returns-clause-value
returns-clause-value c =
    read-short _ _
    (gain-short c.args.auction.now c.args.group c.own.ensures.shaped c.requires.group c.args.value c.requires.value _ _ _ c.revenue.type_inv c.revenue.ensures.value c.paid_from.type_inv c.paid_from.ensures.value c.paid_from-2.type_inv c.paid_from-2.ensures.value _ c.own.type_inv c.own.ensures.value)
