use Rattle.std.proofs.Common.{◌+◌, ◌*◌, ◌^◌, ◌*ℤ◌}
use Rattle.md_math.specs.Sums.{sum_to}
use Rattle.md_space.specs.Profiles.{profile_at, replaced}
use Rattle.md_setting.specs.Meaning.{outcome_count, sizes_of, utility_of}
use Rattle.md_forms.specs.Terms.{AddsTerms}
use Rattle.md_rows.proofs.terms.push_lottery.Given as goal

abbrev pub invariant-loop-outcome : goal.invariant-loop-outcome
invariant-loop-outcome l = AddsTerms (2 ^ 44) (l.share.column * outcome_count l.setting) (l.share.column * outcome_count l.setting + l.outcome) (λ x. sum_to l.outcome (λ o. (l.share.value *ℤ utility_of l.setting l.agent (replaced (profile_at (sizes_of l.setting) l.share.column) l.agent l.kind) o) *ℤ x (l.share.column * outcome_count l.setting + o))) l.fn.terms.items l.terms.items
