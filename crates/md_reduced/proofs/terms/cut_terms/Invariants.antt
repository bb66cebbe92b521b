use Rattle.std.proofs.Common.{◌*◌, ◌^◌, pos, ◌*ℤ◌, [], if◌then◌else◌}
use Rattle.md_math.specs.Sets.{member}
use Rattle.md_math.specs.Sums.{sum_to}
use Rattle.md_border.specs.Odds.{weight_given}
use Rattle.md_forms.specs.Terms.{AddsTerms}
use Rattle.md_reduced.proofs.terms.cut_terms.Given as goal

abbrev pub invariant-loop-kind : goal.invariant-loop-kind
invariant-loop-kind l = AddsTerms (2 ^ 44) 0 l.kind (λ x. sum_to l.kind (λ v. if member l.set v then pos (l.auction.bidders * weight_given l.auction v) *ℤ x v else pos 0)) [] l.terms.items
