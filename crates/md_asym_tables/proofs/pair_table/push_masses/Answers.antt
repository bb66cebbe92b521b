use Rattle.std.proofs.Common.{◌+◌, ◌*◌}
use Rattle.std.specs.Prelude.{slice_index}
use Rattle.md_math.specs.Lists.{number_at}
use Rattle.md_math.proofs.Bits.{read_result}
use Rattle.md_math.proofs.Builders.{push-list}
use Rattle.md_space.specs.Profiles.{profile_at}
use Rattle.md_setting.specs.Meaning.{sizes_of}
use Rattle.md_asym_sale.specs.Pairs.{pair_number}
use Rattle.md_asym_sale.specs.Values.{pairs_of}
use Rattle.md_asym_tables.proofs.pair_table.push_masses.Goals as goal

pub loop-agent-preserved : goal.loop-agent-preserved
loop-agent-preserved c =
    let s = c.args.setting.now in
    push-list c.args.table.now c.loop-agent.table c.push.new.self c.loop-agent.agent
    (λ i. number_at c.args.amounts.now (c.args.rank * pairs_of s + pair_number (sizes_of s) i (slice_index (profile_at (sizes_of s) c.args.rank) i)))
    c.amount.result c.loop-agent.invariant (rw (read_result c.amount.result c.amount.type_inv) at c.in_ok-push.ensures.ok) c.amount.ensures
