use Rattle.std.proofs.Common.{◌≡◌, pos, if◌then◌else◌}
use Rattle.md_math.specs.Sums.{sum_to}
use Rattle.md_math.specs.Sets.{member}
use Rattle.md_border.specs.Odds.{demand_of}
use Rattle.md_border.proofs.demands.demands.Given as goal

abbrev pub invariant-loop-kind : goal.invariant-loop-kind
invariant-loop-kind l = l.sum ≡ sum_to l.kind (λ v. if member l.set v then demand_of l.auction l.interim v else pos 0)
