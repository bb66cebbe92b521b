use Rattle.std.proofs.Common.{◌^◌, pos, [], if◌then◌else◌}
use Rattle.md_math.specs.Sets.{member}
use Rattle.md_math.specs.Sums.{sum_to}
use Rattle.md_forms.specs.Terms.{AddsTerms}
use Rattle.md_asym_sale.specs.Sides.{demand_at}
use Rattle.md_asym_sale.proofs.terms.cut_terms.Given as goal

abbrev pub invariant-loop-pair : goal.invariant-loop-pair
invariant-loop-pair l = AddsTerms (2 ^ 44) 0 l.pair (λ x. sum_to l.pair (λ p. if member l.set p then demand_at l.setting x p else pos 0)) [] l.terms.items
