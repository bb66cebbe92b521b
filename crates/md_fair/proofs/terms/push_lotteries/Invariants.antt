use Rattle.std.proofs.Common.{◌*◌, ◌^◌}
use Rattle.md_math.specs.Sums.{sum_to}
use Rattle.md_setting.specs.Meaning.{outcome_count}
use Rattle.md_forms.specs.Terms.{AddsTerms}
use Rattle.md_fair.specs.Terms.{lottery_lost}
use Rattle.md_fair.proofs.terms.push_lotteries.Given as goal

abbrev pub invariant-loop-rank : goal.invariant-loop-rank
invariant-loop-rank l = AddsTerms (2 ^ 44) 0 (l.rank * outcome_count l.setting) (λ x. sum_to l.rank (lottery_lost l.setting l.agent x)) l.fn.terms.items l.terms.items
