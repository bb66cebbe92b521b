use Rattle.md_math.proofs.Bits.{read_result}
use Rattle.md_border.proofs.MechanismWorth.{value-of_odds}
use Rattle.md_border.proofs.worth.auction_worth.Goals as goal

pub returns-clause-value : goal.returns-clause-value
returns-clause-value c =
    rw (read_result c.worth_over_whole.result c.worth_over_whole.type_inv, read_result c.whole.result c.whole.type_inv, c.worth_over_whole.ensures.value, c.whole.ensures.value) at c.reduced.ensures.value

pub returns-clause-of_mechanisms : goal.returns-clause-of_mechanisms
returns-clause-of_mechanisms c = λ m mechanism odds pays. record {
  is_value = value-of_odds c.args.auction.now m c.args.interim.now c.reduced.result c.whole.ensures.shaped c.requires.fits.den_positive mechanism odds pays (returns-clause-value c);
  least = c.reduced.ensures.least;
}
