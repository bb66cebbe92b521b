use Rattle.std.proofs.Common.{◌≡◌, ◌++◌}
use Rattle.md_math.specs.Lists.{list_to}
use Rattle.md_space.specs.Profiles.{profile_at}
use Rattle.md_setting.specs.Meaning.{sizes_of}
use Rattle.md_mech.specs.Mechanism.{pay_of}
use Rattle.md_rows.specs.Parts.{of_part}
use Rattle.md_rows.proofs.points.push_parts_of.Given as goal

abbrev pub invariant-loop-rank : goal.invariant-loop-rank
invariant-loop-rank l = l.point ≡ l.fn.point ++ list_to l.rank (λ r. of_part l.part (pay_of l.setting l.mechanism l.agent (profile_at (sizes_of l.setting) r)))
