use Rattle.std.proofs.Common.{◌+◌, ◌*◌, ◌^◌, pos, ◌*ℤ◌, []}
use Rattle.md_math.specs.Sums.{sum_to}
use Rattle.md_setting.specs.Meaning.{outcome_count}
use Rattle.md_forms.specs.Terms.{AddsTerms}
use Rattle.md_rows.proofs.terms.profile_terms.Given as goal

abbrev pub invariant-loop-outcome : goal.invariant-loop-outcome
invariant-loop-outcome l = AddsTerms (2 ^ 44) 0 (l.rank * outcome_count l.setting + l.outcome) (λ x. sum_to l.outcome (λ o. pos 1 *ℤ x (l.rank * outcome_count l.setting + o))) [] l.terms.items
