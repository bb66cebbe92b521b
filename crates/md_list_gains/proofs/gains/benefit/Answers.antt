use Rattle.md_list_gains.proofs.Shorts.{short-fits, read-short}
use Rattle.md_list_gains.proofs.GainSteps.{benefit-short}
use Rattle.md_list_gains.proofs.gains.benefit.Goals as goal

pub overflow_mul-result : goal.overflow_mul-result
overflow_mul-result c = short-fits _ _ (benefit-short c.args.auction.now c.args.group c.weight.ensures.shaped c.requires.group c.args.value _ _ c.weight.type_inv c.weight.ensures.value c.values.ensures.value)

pub returns-clause-value : goal.returns-clause-value
returns-clause-value c = read-short _ _ (benefit-short c.args.auction.now c.args.group c.weight.ensures.shaped c.requires.group c.args.value _ _ c.weight.type_inv c.weight.ensures.value c.values.ensures.value)
