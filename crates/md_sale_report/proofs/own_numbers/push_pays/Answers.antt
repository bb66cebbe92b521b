use Rattle.std.proofs.Common.{◌∙◌}
use Rattle.md_math.proofs.Bits.{read_result}
use Rattle.md_math.proofs.Builders.{push-list}
use Rattle.md_space.specs.Profiles.{profile_at}
use Rattle.md_setting.specs.Meaning.{sizes_of}
use Rattle.md_sale_report.specs.OwnNumbers.{own_number}
use Rattle.md_sale_report.proofs.own_numbers.push_pays.Goals as goal

pub loop-agent-preserved : goal.loop-agent-preserved
loop-agent-preserved c =
    push-list c.args.pays.now c.loop-agent.pays c.push.new.self c.loop-agent.agent (λ i. own_number c.args.setting.now c.args.numbers.now i (profile_at (sizes_of c.args.setting.now) c.args.rank)) _
    c.loop-agent.invariant c.in_ok-push.ensures.ok (read_result c.own_number.result c.own_number.type_inv ∙ c.own_number.ensures)
