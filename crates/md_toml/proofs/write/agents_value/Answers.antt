use Rattle.std.proofs.Common.{ℤ, Vec, Global, map, ap, ◌∙◌, option_map}
use Rattle.std.proofs.lemmas.List.{take_all}
use Rattle.toml.specs.Data.{array, table}
use Rattle.toml.specs.View.{items_view}
use Rattle.toml.proofs.Views.{view-Array, view-Table}
use Rattle.md_toml.specs.Writing.{items_from, agent_table}
use Rattle.md_toml.proofs.PrintLaws.{items-more_of}
use Rattle.md_setting.specs.Setting.{written_agent}
use Rattle.md_toml.proofs.write.agents_value.Goals as goal

pub loop-agent-preserved : goal.loop-agent-preserved
loop-agent-preserved c =
    let prior = option_map (λ (weights : Vec ℤ Global). weights.items) c.args.prior.now in
    ap items_view c.in_ok-push.ensures.items
    ∙ items-more_of (λ agent. table (agent_table prior agent)) written_agent c.loop-agent.tables.items _ c.args.agents.now c.loop-agent.agent-index c.agent-item.result c.loop-agent-test.true c.loop-agent.invariant
    (view-Table c.in_ok-agent_table.field-0 ∙ ap table (c.in_ok-agent_table.ensures ∙ ap (λ agent. agent_table prior (written_agent agent)) c.agent-item.is))

pub returns : goal.returns
returns c =
    let prior = option_map (λ (weights : Vec ℤ Global). weights.items) c.args.prior.now in
    view-Array c.loop-agent.tables ∙ ap array (c.loop-agent.invariant ∙ ap (λ agents. items_from (λ agent. table (agent_table prior agent)) (map written_agent agents)) (take_all _ _ c.loop-agent-test.false))
