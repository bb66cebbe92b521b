use Rattle.md_list_award.proofs.Sizes.{amount-read}
use Rattle.md_list_award.proofs.amounts.amount_of.Goals as goal

pub returns-clause-value : goal.returns-clause-value
returns-clause-value c = amount-read c.args.auction.now c.slots.result.now c.args.slot c.slots.ensures.shaped c.slots.ensures.value c.if-slot-eq0.false c.requires
