use Rattle.std.proofs.Common.{◌≡◌, ◌*◌, ◌^◌, pos, if◌then◌else◌}
use Rattle.md_math.specs.Lists.{number_at}
use Rattle.md_math.specs.Sets.{member}
use Rattle.md_math.specs.Sizes.{IsWithin}
use Rattle.md_math.specs.Sums.{sum_to}
use Rattle.md_asym_sale.specs.Sides.{demand_at}
use Rattle.md_sale_report.proofs.cuts.demands.Given as goal

abbrev pub invariant-loop-pair : goal.invariant-loop-pair
invariant-loop-pair l =
    (l.sum ≡ sum_to l.pair (λ p. if member l.set p then demand_at l.setting (number_at l.odds) p else pos 0))
    × IsWithin (l.pair * 2 ^ 106) l.sum
