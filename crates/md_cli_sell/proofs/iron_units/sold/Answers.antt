use Rattle.std.proofs.Common.{refl, inl}
use Rattle.md_cli_sell.proofs.ClosedSales.{closed-fits, closed-sale}
use Rattle.md_cli_sell.proofs.iron_units.sold.Goals as goal

pub answer_text-requires : goal.answer_text-requires
answer_text-requires c =
    let h = rw (c.get.ensures.value, c.in-Some.is) at c.in_ok-answer.ensures in
    closed-fits c.args.auction.now c.args.units.now c.in-Some.answer h.closed h.fits h.writable

pub returns-in_ok-answer_text-in-Some-clause-ironing : goal.returns-in_ok-answer_text-in-Some-clause-ironing
returns-in_ok-answer_text-in-Some-clause-ironing c =
    let h = rw (c.get.ensures.value, c.in-Some.is) at c.in_ok-answer.ensures in
    inl
    (closed-sale c.args.auction.now c.args.units.now c.in-Some.answer _ h.closed h.one h.fits h.optimal h.odds h.pays h.value h.certified h.own refl c.in_ok-answer_text-in-Some.ensures.text
    c.in_ok-answer_text-in-Some.ensures.reads_back)
