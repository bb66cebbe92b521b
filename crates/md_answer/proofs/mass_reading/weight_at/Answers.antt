use Rattle.std.proofs.Common.{◌≡◌, ◌∙◌, arith}
use Rattle.md_counts.specs.Weights.{weight_of_counts}
use Rattle.md_expost.specs.Masses.{counts_in}
use Rattle.md_answer.proofs.MassSteps.{weight-most}
use Rattle.md_answer.proofs.mass_reading.weight_at.Goals as goal

pub returns-clause-size : goal.returns-clause-size
returns-clause-size c =
    let a = c.args.auction.now in
    let counted : c.weight.result ≡ weight_of_counts a.weights a.bidders (counts_in a c.args.rank) = rw (c.weights.ensures.value, c.requires.bidders, c.requires.kinds) at c.weight.ensures in
    weight-most a c.args.rank c.from.result c.from-2.result c.weights.ensures.shaped c.requires.rank_in (omega (arith, c.from.ensures, c.requires.den)) (c.from-2.ensures ∙ counted)
