use Rattle.std.proofs.Common.{◌≡◌, ◌+◌, ◌++◌}
use Rattle.md_math.specs.Lists.{list_to}
use Rattle.md_space.specs.Profiles.{profile_at}
use Rattle.md_setting.specs.Meaning.{sizes_of}
use Rattle.md_sale_report.specs.OwnNumbers.{own_chance}
use Rattle.md_sale_report.proofs.own_numbers.push_chances.Given as goal

abbrev pub invariant-loop-agent : goal.invariant-loop-agent
invariant-loop-agent l = l.chances ≡ l.fn.chances ++ list_to (l.agent + 1) (own_chance l.setting l.odds (profile_at (sizes_of l.setting) l.rank))
