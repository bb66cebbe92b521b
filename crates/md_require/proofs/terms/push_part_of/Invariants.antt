use Rattle.std.proofs.Common.{◌+◌, ◌*◌, ◌^◌, ◌*ℤ◌}
use Rattle.md_math.specs.Sums.{sum_to}
use Rattle.md_space.specs.Profiles.{profile_count}
use Rattle.md_setting.specs.Meaning.{sizes_of}
use Rattle.md_forms.specs.Terms.{AddsTerms}
use Rattle.md_require.specs.Named.{named}
use Rattle.md_require.specs.Parts.{pay_part}
use Rattle.md_require.proofs.terms.push_part_of.Given as goal

abbrev pub invariant-loop-rank : goal.invariant-loop-rank
invariant-loop-rank l = AddsTerms (2 ^ 44) (l.first + l.agent * profile_count (sizes_of l.setting)) (l.first + l.agent * profile_count (sizes_of l.setting) + l.rank) (λ x. sum_to l.rank (λ r. (l.scaled.scale *ℤ pay_part l.setting (named l.setting l.scaled.amount) r l.agent) *ℤ x (l.first + l.agent * profile_count (sizes_of l.setting) + r))) l.fn.terms.items l.terms.items
