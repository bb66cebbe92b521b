use Rattle.md_math.specs.Lists.{up_to}
use Rattle.md_require.specs.Named.{amounts_at}
use Rattle.md_require.specs.Prices.{IsPricedTo}
use Rattle.md_require.proofs.price.price_of.Given as goal

abbrev pub invariant-loop-rank : goal.invariant-loop-rank
invariant-loop-rank l = IsPricedTo l.setting l.bound l.first (up_to l.rank (amounts_at l.setting l.measured)) l.price
