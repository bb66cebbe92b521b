use Rattle.std.proofs.Common.{◌≡◌, ◌*ℤ◌}
use Rattle.md_math.specs.Sums.{sum_to}
use Rattle.md_asym_sale.specs.Values.{marginal_at}
use Rattle.md_asym.specs.Gains.{gain_of}
use Rattle.md_asym.proofs.worth.gains.Given as goal

abbrev pub invariant-loop-pair : goal.invariant-loop-pair
invariant-loop-pair l = l.sum ≡ sum_to l.pair (λ p. marginal_at l.setting p *ℤ gain_of l.setting l.odds l.pays p)
