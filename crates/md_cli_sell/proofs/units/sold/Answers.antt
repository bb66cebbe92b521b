use Rattle.std.proofs.Common.{refl}
use Rattle.md_cli_sell.proofs.UnitsSold.{bound-sold, of_answer, of_wide, wide-fits}
use Rattle.md_cli_sell.proofs.UnitsTold.{answer-fits}
use Rattle.md_cli_sell.proofs.units.sold.Goals as goal

pub answer_text-requires : goal.answer_text-requires
answer_text-requires c =
    let h = rw c.get.ensures.value at c.in-Ok.ensures in
    answer-fits c.args.auction.now c.args.units.now c.in-Ok.answer h.fits h.table h.distinct (bound-sold c.args.auction.now c.args.units.now c.args.width c.in-Ok.answer h.solved) h.value.least.positive h.value_fits

pub write_auction_answer-requires : goal.write_auction_answer-requires
write_auction_answer-requires c =
    let h = rw (c.get.ensures.value, c.in-Err-TooWide.field-0-is) at c.in-Err-TooWide.ensures in
    wide-fits c.args.auction.now c.args.units.now c.in-Err-TooWide.cuts c.in-Err-TooWide.first c.in-Err-TooWide.second h.small h.distinct

pub returns-in_ok-answer_text-in-Ok-clause-selling : goal.returns-in_ok-answer_text-in-Ok-clause-selling
returns-in_ok-answer_text-in-Ok-clause-selling c =
    let h = rw c.get.ensures.value at c.in-Ok.ensures in
    of_answer c.args.auction.now c.args.units.now c.args.width _ c.in-Ok.answer c.kinds-shaped.ensures.shaped h.solved h.fits h.table h.implements h.optimal h.odds h.pays h.value h.worth h.settled h.wide refl
    c.in_ok-answer_text-in-Ok.ensures.text c.in_ok-answer_text-in-Ok.ensures.reads_back

pub returns-in_ok-write_auction_answer-in-Err-TooWide-clause-selling : goal.returns-in_ok-write_auction_answer-in-Err-TooWide-clause-selling
returns-in_ok-write_auction_answer-in-Err-TooWide-clause-selling c =
    let h = rw c.get.ensures.value at c.in-Err-TooWide.ensures in
    of_wide c.args.auction.now c.args.units.now c.args.width _ c.in-Err-TooWide.cuts c.in-Err-TooWide.first c.in-Err-TooWide.second
    (rw c.in-Err-TooWide.field-0-is at h.left)
    (λ others forward backward ends. rw c.in-Err-TooWide.field-0-is at (h.wide others forward backward ends))
    (λ others optimum ends. rw c.in-Err-TooWide.field-0-is at (h.settled others optimum ends))
    refl c.in_ok-write_auction_answer-in-Err-TooWide.ensures.text c.in_ok-write_auction_answer-in-Err-TooWide.ensures.reads_back
