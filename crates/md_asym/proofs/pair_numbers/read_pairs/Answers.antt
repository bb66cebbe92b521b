use Rattle.std.proofs.Common.{◌<◌, ◌≡◌, arith}
use Rattle.std.proofs.lemmas.Result.{err_from_is_err_and}
use Rattle.md_setting.specs.Meaning.{agent_count}
use Rattle.md_parts.specs.Ranges.{ranged_field}
use Rattle.md_asym.specs.SaleReading.{agent_numbers}
use Rattle.md_asym.proofs.ReadingSteps.{each-end, each-fail, each-more}
use Rattle.md_asym.proofs.pair_numbers.read_pairs.Goals as goal

pub loop-agent-preserved : goal.loop-agent-preserved
loop-agent-preserved c =
    let (more, one, items) = c.in_ok-read_agent.ensures in
    rw items (each-more (agent_numbers c.args.word.now c.args.setting.now (ranged_field 62 c.args.range)) c.loop-agent.agent c.args.reader.now c.loop-agent.reader c.read_agent.new.reader c.loop-agent.numbers more c.loop-agent.invariant one)

pub returns-in_err-read_agent : goal.returns-in_err-read_agent
returns-in_err-read_agent c =
    let p = err_from_is_err_and c.from_residual.result c.from_residual.ensures.1 in
    let below : c.loop-agent.agent < agent_count c.args.setting.now = omega (arith, c.loop-agent-test.true, c.agents-agent-end.ensures.count) in
    rw (p.1, p.2) (λ ne.
    each-fail (agent_numbers c.args.word.now c.args.setting.now (ranged_field 62 c.args.range)) (agent_count c.args.setting.now) c.loop-agent.agent c.args.reader.now c.loop-agent.reader c.loop-agent.numbers _ below c.loop-agent.invariant (c.in_err-read_agent.ensures ne))

pub returns : goal.returns
returns c =
    let end : c.loop-agent.agent ≡ agent_count c.args.setting.now = omega (arith, c.loop-agent-test.false, c.loop-agent.auto.agent-end, c.agents-agent-end.ensures.count) in
    each-end (agent_numbers c.args.word.now c.args.setting.now (ranged_field 62 c.args.range)) (agent_count c.args.setting.now) c.loop-agent.agent c.args.reader.now c.loop-agent.reader c.loop-agent.numbers end c.loop-agent.invariant
