use Rattle.std.proofs.Common.{◌≡◌, ◌∙◌, [], ◌∷◌, sym, subst, arith}
use Rattle.md_math.specs.Lists.{list_to}
use Rattle.md_math.proofs.Builders.{length-list_to, list_to-more}
use Rattle.md_setting.specs.Meaning.{agent_count}
use Rattle.md_mech.proofs.UtilityLaws.{agents_are}
use Rattle.md_forms.specs.Built.{Extends}
use Rattle.md_forms.proofs.BuiltLaws.{extends-both, grown, same_columns}
use Rattle.md_fair.specs.FairProgram.{agent_form}
use Rattle.md_fair.proofs.program.push_agents.Goals as goal

pub push_agent-requires-clause-columns : goal.push_agent-requires-clause-columns
push_agent-requires-clause-columns c =
    same_columns (list_to c.loop-agent.agent (agent_form c.args.setting.now)) c.args.lp.now c.loop-agent.lp c.loop-agent.invariant ∙ c.requires.columns

pub push_agent-requires-clause-room : goal.push_agent-requires-clause-room
push_agent-requires-clause-room c =
    let s = c.args.setting.now in
    let count : c.agents-agent-end.result ≡ agent_count s = agents_are s c.agents-agent-end.result _ c.agents-agent-end.ensures.count c.space.ensures.sizes in
    omega (
      arith,
      c.loop-agent-test.true,
      count,
      c.requires.room.room,
      grown (list_to c.loop-agent.agent (agent_form s)) c.args.lp.now c.loop-agent.lp c.loop-agent.invariant,
      length-list_to c.loop-agent.agent (agent_form s),
      length-list_to (agent_count s) (agent_form s),
    )

pub loop-agent-preserved : goal.loop-agent-preserved
loop-agent-preserved c =
    let s = c.args.setting.now in
    let i = c.loop-agent.agent in
    subst (λ fs. Extends fs c.args.lp.now c.push_agent.new.lp) (sym (list_to-more i (agent_form s)))
    (extends-both (list_to i (agent_form s)) (agent_form s i ∷ []) c.args.lp.now c.loop-agent.lp c.push_agent.new.lp c.loop-agent.invariant c.in_ok-push_agent.ensures)

pub returns : goal.returns
returns c =
    let s = c.args.setting.now in
    let count : c.agents-agent-end.result ≡ agent_count s = agents_are s c.agents-agent-end.result _ c.agents-agent-end.ensures.count c.space.ensures.sizes in
    let end : c.loop-agent.agent ≡ agent_count s = omega (arith, count) in
    subst (λ n. Extends (list_to n (agent_form s)) c.args.lp.now c.loop-agent.lp) end c.loop-agent.invariant
