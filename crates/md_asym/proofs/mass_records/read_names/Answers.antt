use Rattle.std.proofs.Common.{◌≡◌, ◌<◌, arith}
use Rattle.std.proofs.lemmas.Result.{err_from_is_err_and}
use Rattle.md_setting.specs.Meaning.{agent_count}
use Rattle.md_parts.proofs.TableSteps.{names-more, names-fail_at, names-all}
use Rattle.md_asym.proofs.mass_records.read_names.Goals as goal

pub returns-in_err-word : goal.returns-in_err-word
returns-in_err-word c =
    let (room, reads) = c.loop-agent.invariant in
    let p = err_from_is_err_and c.from_residual.result c.from_residual.ensures.1 in
    let below : c.loop-agent.agent < agent_count c.args.setting.now = omega (arith, c.loop-agent-test.true, c.agents-agent-end.ensures.count) in
    rw (p.1, p.2) (names-fail_at c.args.setting.now c.args.rank c.loop-agent.agent c.name_at.result.now c.args.fields.now c.loop-agent.fields _ c.requires.rank_in below c.name_at.ensures reads c.in_err-word.ensures)

pub loop-agent-preserved : goal.loop-agent-preserved
loop-agent-preserved c =
    let (room, reads) = c.loop-agent.invariant in
    let below : c.loop-agent.agent < agent_count c.args.setting.now = omega (arith, c.loop-agent-test.true, c.agents-agent-end.ensures.count) in
    let one = c.in_ok-word.ensures in
    let left = one.left in
    (omega (arith, left, room), names-more c.args.setting.now c.args.rank c.loop-agent.agent c.name_at.result.now c.args.fields.now c.loop-agent.fields c.word.new.self c.requires.rank_in below c.name_at.ensures reads one)

pub returns : goal.returns
returns c =
    let (room, reads) = c.loop-agent.invariant in
    let end : c.loop-agent.agent ≡ agent_count c.args.setting.now = omega (arith, c.loop-agent-test.false, c.loop-agent.auto.agent-end, c.agents-agent-end.ensures.count) in
    names-all c.args.setting.now c.args.rank c.loop-agent.agent c.args.fields.now c.loop-agent.fields c.requires.rank_in end reads
