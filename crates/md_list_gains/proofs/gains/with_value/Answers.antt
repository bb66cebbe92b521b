use Rattle.md_list_gains.proofs.Shorts.{short-fits, read-short}
use Rattle.md_list_gains.proofs.GainSteps.{weights-short, gains-short, benefits-short}
use Rattle.md_list_gains.proofs.gains.with_value.Goals as goal

pub overflow_add-result : goal.overflow_add-result
overflow_add-result c =
    short-fits _ _
    (weights-short c.args.auction.now c.args.group c.weight.ensures.shaped c.requires.group c.args.value c.requires.value _ _ c.weight.type_inv c.requires.below.weight c.weight.ensures.value)

pub overflow_add-result-2 : goal.overflow_add-result-2
overflow_add-result-2 c =
    short-fits _ _
    (gains-short c.args.auction.now c.args.group c.weight.ensures.shaped c.requires.group c.args.value c.requires.value _ _ c.gain.type_inv c.requires.below.gain c.gain.ensures.value)

pub overflow_add-result-3 : goal.overflow_add-result-3
overflow_add-result-3 c =
    short-fits _ _
    (benefits-short c.args.auction.now c.args.group c.weight.ensures.shaped c.requires.group c.args.value c.requires.value _ _ c.benefit.type_inv c.requires.below.benefit c.benefit.ensures.value)

pub returns : goal.returns
returns c = record {
  weight =
      read-short _ _
      (weights-short c.args.auction.now c.args.group c.weight.ensures.shaped c.requires.group c.args.value c.requires.value _ _ c.weight.type_inv c.requires.below.weight c.weight.ensures.value);
  gain =
      read-short _ _
      (gains-short c.args.auction.now c.args.group c.weight.ensures.shaped c.requires.group c.args.value c.requires.value _ _ c.gain.type_inv c.requires.below.gain c.gain.ensures.value);
  benefit =
      read-short _ _
      (benefits-short c.args.auction.now c.args.group c.weight.ensures.shaped c.requires.group c.args.value c.requires.value _ _ c.benefit.type_inv c.requires.below.benefit c.benefit.ensures.value);
}
