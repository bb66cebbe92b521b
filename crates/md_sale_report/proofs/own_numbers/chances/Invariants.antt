use Rattle.std.proofs.Common.{◌≡◌}
use Rattle.md_math.specs.Lists.{list_to, up_to}
use Rattle.md_space.specs.Profiles.{profile_at}
use Rattle.md_setting.specs.Meaning.{outcome_count, sizes_of}
use Rattle.md_sale_report.specs.OwnNumbers.{own_chance}
use Rattle.md_sale_report.proofs.own_numbers.chances.Given as goal

abbrev pub invariant-loop-rank : goal.invariant-loop-rank
invariant-loop-rank l = l.chances ≡ up_to l.rank (λ r. list_to (outcome_count l.setting) (own_chance l.setting l.odds (profile_at (sizes_of l.setting) r)))
