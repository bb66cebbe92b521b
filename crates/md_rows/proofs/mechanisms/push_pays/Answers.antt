use Rattle.md_math.specs.Lists.{number_at}
use Rattle.md_math.proofs.Bits.{read_result}
use Rattle.md_math.proofs.Builders.{push-list}
use Rattle.md_space.specs.Profiles.{profile_at}
use Rattle.md_setting.specs.Meaning.{sizes_of}
use Rattle.md_rows.specs.Columns.{payment_in}
use Rattle.md_rows.proofs.mechanisms.push_pays.Goals as goal

pub loop-agent-preserved : goal.loop-agent-preserved
loop-agent-preserved c =
    let s = c.args.setting.now in
    push-list c.args.pays.now c.loop-agent.pays c.push.new.self c.loop-agent.agent (λ i. payment_in s (number_at c.args.point.now) i (profile_at (sizes_of s) c.args.rank))
    c.pay.result c.loop-agent.invariant (rw (read_result c.pay.result c.pay.type_inv) at c.in_ok-push.ensures.ok) c.pay.ensures
