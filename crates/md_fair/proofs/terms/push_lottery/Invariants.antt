use Rattle.std.proofs.Common.{◌+◌, ◌*◌, ◌^◌, ◌*ℤ◌, neg_ℤ}
use Rattle.md_math.specs.Sums.{sum_to}
use Rattle.md_space.specs.Profiles.{profile_at}
use Rattle.md_setting.specs.Meaning.{outcome_count, sizes_of, utility_of, weight_of}
use Rattle.md_forms.specs.Terms.{AddsTerms}
use Rattle.md_fair.proofs.terms.push_lottery.Given as goal

abbrev pub invariant-loop-outcome : goal.invariant-loop-outcome
invariant-loop-outcome l = AddsTerms (2 ^ 44) (l.rank * outcome_count l.setting) (l.rank * outcome_count l.setting + l.outcome) (λ x. sum_to l.outcome (λ o. (neg_ℤ (weight_of l.setting (profile_at (sizes_of l.setting) l.rank)) *ℤ utility_of l.setting l.agent (profile_at (sizes_of l.setting) l.rank) o) *ℤ x (l.rank * outcome_count l.setting + o))) l.fn.terms.items l.terms.items
