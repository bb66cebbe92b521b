use Rattle.std.proofs.Common.{lit<}
use Rattle.md_math.proofs.Bits.{read_result, read_within}
use Rattle.md_mech.specs.Accepted.{number_limit}
use Rattle.md_border.proofs.DemandLaws.{den-within}
use Rattle.md_auction_report.proofs.types.value_numbers.Goals as goal

pub returns-clause-told : goal.returns-clause-told
returns-clause-told c =
    let interim = c.args.interim.now in
    let den = read_within number_limit interim.den (den-within c.args.auction.now interim c.requires.fits) (lit< tt) in
    record {
      kind_in = c.requires.kind_in;
      utility = (rw (read_result c.utility-gets.result c.utility-gets.type_inv, den, c.utility-gets.ensures.value) at c.over.ensures);
      payment = (rw (read_result c.payment-pays.result c.payment-pays.type_inv, den, c.payment-pays.ensures.value) at c.over-2.ensures);
    }
