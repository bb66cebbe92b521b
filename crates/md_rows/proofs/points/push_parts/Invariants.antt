use Rattle.std.proofs.Common.{◌≡◌, ◌++◌}
use Rattle.md_math.specs.Lists.{list_to, up_to}
use Rattle.md_space.specs.Profiles.{profile_count, profile_at}
use Rattle.md_setting.specs.Meaning.{sizes_of}
use Rattle.md_mech.specs.Mechanism.{pay_of}
use Rattle.md_rows.specs.Parts.{of_part}
use Rattle.md_rows.proofs.points.push_parts.Given as goal

abbrev pub invariant-loop-agent : goal.invariant-loop-agent
invariant-loop-agent l = l.point ≡ l.fn.point ++ up_to l.agent (λ i. list_to (profile_count (sizes_of l.setting)) (λ r. of_part l.part (pay_of l.setting l.mechanism i (profile_at (sizes_of l.setting) r))))
