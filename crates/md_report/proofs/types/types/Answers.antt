use Rattle.std.proofs.Common.{sym, subst}
use Rattle.md_math.specs.Lists.{up_to}
use Rattle.md_math.proofs.Builders.{up_to-more}
use Rattle.md_report.specs.Types.{types_of, AreTold}
use Rattle.md_report.proofs.types.types.Goals as goal

pub loop-agent-preserved : goal.loop-agent-preserved
loop-agent-preserved c =
    let s = c.args.setting.now in
    subst (λ types. AreTold s c.args.mechanism.now types c.push_types.new.told.items) (sym (up_to-more c.loop-agent.agent (types_of s)))
    (c.in_ok-push_types.ensures (up_to c.loop-agent.agent (types_of s)) c.loop-agent.invariant)
