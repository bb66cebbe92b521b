use Rattle.std.proofs.Common.{◌≡◌, ◌+◌, ◌<◌, ◌≤◌, length, sym, ap, ◌∙◌, subst, arith}
use Rattle.std.proofs.lemmas.List.{length_push}
use Rattle.md_math.specs.Lists.{up_to}
use Rattle.md_setting.specs.Meaning.{agent_count}
use Rattle.md_mech.specs.Rows.{conditions_of}
use Rattle.md_mech.proofs.CountLaws.{agents-length}
use Rattle.md_report.specs.Blocks.{rows_of, start_of}
use Rattle.md_report.specs.Worst.{IsWorstOf}
use Rattle.md_report.proofs.BlockLaws.{StandsAt, stands, stands-inside, block-told, one-more, up_to-more-length}
use Rattle.md_report.proofs.blocks.worst_by_agent.Goals as goal

pub worst_row-requires-clause-inside : goal.worst_row-requires-clause-inside
worst_row-requires-clause-inside c =
    let s = c.args.setting.now in
    let i = c.loop-agent.agent in
    let block = rows_of s c.args.demand i in
    let start = start_of s c.args.demand + length (up_to i (rows_of s c.args.demand)) in
    let inside : i < agent_count s = omega (arith, c.loop-agent-test.true, c.agents-agent-end.ensures.count, ap length c.space.ensures.sizes, agents-length s) in
    let fits : start + length block ≤ length (conditions_of s) = stands-inside start block (conditions_of s) (stands s c.args.demand i inside) in
    omega (arith, fits, c.loop-agent.invariant.0, c.count.ensures.value)

pub loop-agent-preserved : goal.loop-agent-preserved
loop-agent-preserved c =
    let s = c.args.setting.now in
    let m = c.args.mechanism.now in
    let demand = c.args.demand in
    let i = c.loop-agent.agent in
    let block = rows_of s demand i in
    let start = start_of s demand + length (up_to i (rows_of s demand)) in
    let inside : i < agent_count s = omega (arith, c.loop-agent-test.true, c.agents-agent-end.ensures.count, ap length c.space.ensures.sizes, agents-length s) in
    let begin : c.loop-agent.row ≡ start = c.loop-agent.invariant.0 in
    let next : c.loop-agent.row + c.count.result ≡ start + length block = omega (arith, begin, c.count.ensures.value) in
    let stands-there : StandsAt c.loop-agent.row block (conditions_of s) = subst (λ k. StandsAt k block (conditions_of s)) (sym begin) (stands s demand i inside) in
    let told : IsWorstOf s m block c.worst_row.result =
    block-told s m block c.loop-agent.row (c.loop-agent.row + c.count.result) c.worst_row.result stands-there (omega (arith, next, begin)) c.worst_row.ensures in
    let more = up_to-more-length i (rows_of s demand) in
    rw c.in_ok-push.ensures.items (
      omega (arith, next, more),
      omega (arith, c.loop-agent.invariant.1, c.count.ensures.few),
      length_push c.loop-agent.worst.items c.worst_row.result ∙ omega (arith, c.loop-agent.invariant.2),
      one-more s m demand i c.loop-agent.worst.items c.worst_row.result c.loop-agent.invariant.2 c.loop-agent.invariant.3 told,
    )
