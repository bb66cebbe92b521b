use Rattle.std.proofs.Common.{◌≡◌}
use Rattle.md_math.specs.Lists.{list_to, up_to}
use Rattle.md_space.specs.Profiles.{profile_at}
use Rattle.md_setting.specs.Meaning.{agent_count, sizes_of}
use Rattle.md_sale_report.specs.OwnNumbers.{own_number}
use Rattle.md_sale_report.proofs.own_numbers.pays.Given as goal

abbrev pub invariant-loop-rank : goal.invariant-loop-rank
invariant-loop-rank l = l.pays ≡ up_to l.rank (λ r. list_to (agent_count l.setting) (λ i. own_number l.setting l.numbers i (profile_at (sizes_of l.setting) r)))
