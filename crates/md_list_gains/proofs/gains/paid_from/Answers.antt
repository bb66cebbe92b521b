use Rattle.md_list_gains.proofs.Shorts.{short-fits, read-short}
use Rattle.md_list_gains.proofs.GainSteps.{paid-short}
use Rattle.md_list_gains.proofs.gains.paid_from.Goals as goal

pub overflow_mul-result : goal.overflow_mul-result
overflow_mul-result c =
    short-fits _ _
    (paid-short c.args.auction.now c.args.group c.values-values.ensures.shaped c.requires.group c.args.value c.weight_from.result c.values-values.result.now c.requires.value c.weight_from.type_inv c.weight_from.ensures.value c.values-values.ensures.value)

pub returns-clause-value : goal.returns-clause-value
returns-clause-value c =
    read-short _ _
    (paid-short c.args.auction.now c.args.group c.values-values.ensures.shaped c.requires.group c.args.value c.weight_from.result c.values-values.result.now c.requires.value c.weight_from.type_inv c.weight_from.ensures.value c.values-values.ensures.value)
