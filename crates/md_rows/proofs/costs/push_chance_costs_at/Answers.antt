use Rattle.std.proofs.Common.{◌*ℤ◌}
use Rattle.md_math.proofs.Bits.{read_result}
use Rattle.md_math.proofs.Builders.{push-list}
use Rattle.md_space.specs.Profiles.{profile_at}
use Rattle.md_setting.specs.Meaning.{sizes_of, weight_of, value_of}
use Rattle.md_rows.proofs.costs.push_chance_costs_at.Goals as goal

pub loop-outcome-preserved : goal.loop-outcome-preserved
loop-outcome-preserved c =
    let s = c.args.setting.now in
    push-list c.args.cost.now c.loop-outcome.cost c.push.new.self c.loop-outcome.outcome (λ o. weight_of s (profile_at (sizes_of s) c.args.rank) *ℤ value_of s (profile_at (sizes_of s) c.args.rank) o)
    c.chance_cost.result c.loop-outcome.invariant (rw (read_result c.chance_cost.result c.chance_cost.type_inv) at c.in_ok-push.ensures.ok) c.chance_cost.ensures
