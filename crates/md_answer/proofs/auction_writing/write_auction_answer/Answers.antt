use Rattle.std.proofs.Common.{◌≡◌, ◌∙◌, ap}
use Rattle.std.proofs.lemmas.Result.{IfOk-weaker}
use Rattle.md_records.specs.Written.{text_of_records}
use Rattle.md_answer.specs.AuctionAnswers.{answer_for}
use Rattle.md_answer.proofs.AuctionWritten.{auction-reads_back}
use Rattle.md_answer.proofs.auction_writing.write_auction_answer.Goals as goal

pub returns-in_err-rows-clause-law : goal.returns-in_err-rows-clause-law
returns-in_err-rows-clause-law c = λ a fits placed. auction-reads_back c.args.supply.now c.args.auction.now a c.kinds-few.ensures.shaped fits placed

pub returns-clause-reads_back : goal.returns-clause-reads_back
returns-clause-reads_back c =
    let rows = c.deref.ensures.value ∙ c.in_ok-rows.ensures.rows in
    IfOk-weaker c.write_records.result (λ text. text.items ≡ text_of_records c.deref.result.now) _
    (λ text is. ap (answer_for c.args.supply.now c.args.auction.now) (is ∙ ap text_of_records rows) ∙ auction-reads_back c.args.supply.now c.args.auction.now c.args.answer.now c.kinds-few.ensures.shaped c.requires c.in_ok-rows.ensures.places)
    c.write_records.ensures.text

pub returns-clause-law : goal.returns-clause-law
returns-clause-law c = λ a fits placed. auction-reads_back c.args.supply.now c.args.auction.now a c.kinds-few.ensures.shaped fits placed
