use Rattle.std.proofs.Common.{◌+◌, ◌*◌, ◌^◌}
use Rattle.md_math.specs.Sums.{sum_to}
use Rattle.md_space.specs.Profiles.{profile_count}
use Rattle.md_setting.specs.Meaning.{sizes_of}
use Rattle.md_forms.specs.Terms.{AddsTerms}
use Rattle.md_fair.specs.Terms.{part_paid}
use Rattle.md_fair.proofs.terms.push_parts.Given as goal

abbrev pub invariant-loop-rank : goal.invariant-loop-rank
invariant-loop-rank l = AddsTerms (2 ^ 44) l.first (l.first + l.agent * profile_count (sizes_of l.setting) + l.rank) (λ x. sum_to l.rank (part_paid l.setting l.agent l.first l.sign x)) l.fn.terms.items l.terms.items
