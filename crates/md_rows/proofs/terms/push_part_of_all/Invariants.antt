use Rattle.std.proofs.Common.{◌+◌, ◌*◌, ◌^◌}
use Rattle.md_math.specs.Sums.{sum_to}
use Rattle.md_space.specs.Profiles.{profile_count}
use Rattle.md_setting.specs.Meaning.{sizes_of}
use Rattle.md_forms.specs.Terms.{AddsTerms}
use Rattle.md_rows.specs.Terms.{part_of_all}
use Rattle.md_rows.proofs.terms.push_part_of_all.Given as goal

abbrev pub invariant-loop-agent : goal.invariant-loop-agent
invariant-loop-agent l = AddsTerms (2 ^ 44) l.first (l.first + l.agent * profile_count (sizes_of l.setting)) (λ x. sum_to l.agent (part_of_all l.setting l.first l.rank l.sign x)) l.fn.terms.items l.terms.items
