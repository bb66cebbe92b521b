use Rattle.std.proofs.Common.{◌≡◌, suc, ◌+◌, ap, ◌∙◌, arith}
use Rattle.md_math.proofs.Bits.{read_result}
use Rattle.md_math.proofs.Builders.{push-list}
use Rattle.md_space.specs.Profiles.{profile_at}
use Rattle.md_setting.specs.Meaning.{sizes_of}
use Rattle.md_sale_report.specs.OwnNumbers.{own_chance}
use Rattle.md_sale_report.proofs.own_numbers.push_chances.Goals as goal

pub loop-agent-preserved : goal.loop-agent-preserved
loop-agent-preserved c =
    let f = own_chance c.args.setting.now c.args.odds.now (profile_at (sizes_of c.args.setting.now) c.args.rank) in
    let next : suc c.loop-agent.agent ≡ c.loop-agent.agent + 1 = omega arith in
    push-list c.args.chances.now c.loop-agent.chances c.push-in-loop-agent.new.self (c.loop-agent.agent + 1) f _
    c.loop-agent.invariant c.in_ok-push-2.ensures.ok (read_result c.own_number.result c.own_number.type_inv ∙ c.own_number.ensures ∙ ap f next)
