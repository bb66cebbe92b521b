use Rattle.std.proofs.Common.{◌≡◌, ◌++◌, ◌*ℤ◌}
use Rattle.md_math.specs.Lists.{list_to}
use Rattle.md_space.specs.Profiles.{profile_at}
use Rattle.md_setting.specs.Meaning.{sizes_of, weight_of, value_of}
use Rattle.md_rows.proofs.costs.push_chance_costs_at.Given as goal

abbrev pub invariant-loop-outcome : goal.invariant-loop-outcome
invariant-loop-outcome l = l.cost ≡ l.fn.cost ++ list_to l.outcome (λ o. weight_of l.setting (profile_at (sizes_of l.setting) l.rank) *ℤ value_of l.setting (profile_at (sizes_of l.setting) l.rank) o)
