use Rattle.std.proofs.Common.{◌+◌, ◌*◌, ◌^◌, ◌*ℤ◌}
use Rattle.md_math.specs.Sums.{sum_to}
use Rattle.md_setting.specs.Meaning.{outcome_count}
use Rattle.md_forms.specs.Terms.{AddsTerms}
use Rattle.md_require.specs.Named.{named}
use Rattle.md_require.specs.Parts.{chance_part}
use Rattle.md_require.proofs.terms.push_lottery.Given as goal

abbrev pub invariant-loop-outcome : goal.invariant-loop-outcome
invariant-loop-outcome l = AddsTerms (2 ^ 44) (l.rank * outcome_count l.setting) (l.rank * outcome_count l.setting + l.outcome) (λ x. sum_to l.outcome (λ o. (l.scaled.scale *ℤ chance_part l.setting (named l.setting l.scaled.amount) l.rank o) *ℤ x (l.rank * outcome_count l.setting + o))) l.fn.terms.items l.terms.items
