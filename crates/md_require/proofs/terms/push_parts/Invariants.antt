use Rattle.std.proofs.Common.{◌+◌, ◌*◌, ◌^◌}
use Rattle.md_math.specs.Sums.{sum_to}
use Rattle.md_space.specs.Profiles.{profile_count}
use Rattle.md_setting.specs.Meaning.{sizes_of}
use Rattle.md_forms.specs.Terms.{AddsTerms}
use Rattle.md_require.specs.Named.{named}
use Rattle.md_require.specs.Parts.{part_in}
use Rattle.md_require.proofs.terms.push_parts.Given as goal

abbrev pub invariant-loop-agent : goal.invariant-loop-agent
invariant-loop-agent l = AddsTerms (2 ^ 44) l.first (l.first + l.agent * profile_count (sizes_of l.setting)) (λ x. sum_to l.agent (part_in l.setting l.scaled.scale (named l.setting l.scaled.amount) l.first x)) l.fn.terms.items l.terms.items
