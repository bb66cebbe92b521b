use Rattle.std.proofs.Common.{◌≡◌, ◌++◌}
use Rattle.md_math.specs.Lists.{list_to}
use Rattle.md_space.specs.Profiles.{profile_at}
use Rattle.md_setting.specs.Meaning.{sizes_of}
use Rattle.md_sale_report.specs.OwnNumbers.{own_number}
use Rattle.md_sale_report.proofs.own_numbers.push_pays.Given as goal

abbrev pub invariant-loop-agent : goal.invariant-loop-agent
invariant-loop-agent l = l.pays ≡ l.fn.pays ++ list_to l.agent (λ i. own_number l.setting l.numbers i (profile_at (sizes_of l.setting) l.rank))
