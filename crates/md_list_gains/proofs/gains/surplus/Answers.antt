use Rattle.md_list_gains.proofs.Shorts.{short-fits, read-short}
use Rattle.md_list_gains.proofs.GainSteps.{worth-short, surplus-short}
use Rattle.md_list_gains.proofs.gains.surplus.Goals as goal

pub overflow_add-result : goal.overflow_add-result
overflow_add-result c =
    short-fits _ _
    (worth-short c.args.auction.now c.args.group c.worth.ensures.shaped c.requires.group c.args.value _ _ _ c.welfare.type_inv c.welfare.ensures.value c.values.ensures.value c.worth.type_inv c.worth.ensures.value)

pub overflow_sub-result : goal.overflow_sub-result
overflow_sub-result c =
    short-fits _ _
    (surplus-short c.args.auction.now c.args.group c.worth.ensures.shaped c.requires.group c.args.value _ _ _ _ c.welfare.type_inv c.welfare.ensures.value c.values.ensures.value c.worth.type_inv c.worth.ensures.value c.keep.type_inv c.keep.ensures.value)

pub returns-clause-value : goal.returns-clause-value
returns-clause-value c =
    read-short _ _
    (surplus-short c.args.auction.now c.args.group c.worth.ensures.shaped c.requires.group c.args.value _ _ _ _ c.welfare.type_inv c.welfare.ensures.value c.values.ensures.value c.worth.type_inv c.worth.ensures.value c.keep.type_inv c.keep.ensures.value)
