use Rattle.std.proofs.Common.{arith, ◌∙◌, ap}
use Rattle.md_space.specs.Profiles.{profile_at}
use Rattle.md_space.proofs.Ranks.{rank_of-below, profile_at-rank_of}
use Rattle.md_space.proofs.Walks.{AddsReport, adds_report, rank-end}
use Rattle.md_space.proofs.space.Space.rank.Goals as goal

pub stride-requires : goal.stride-requires
stride-requires c = (adds_report _ _ _ _ c.requires c.loop-agent-test.true c.loop-agent.invariant).agent_in

pub overflow_mul-rank : goal.overflow_mul-rank
overflow_mul-rank c =
    let step : AddsReport c.args.self.now c.args.reports.now c.loop-agent.agent c.loop-agent.rank = adds_report _ _ _ _ c.requires c.loop-agent-test.true c.loop-agent.invariant in
    rw (c.from.ensures, c.stride.ensures.value) (omega (arith, step.small, c.stride.ensures.space.few_profiles))

pub overflow_add-rank : goal.overflow_add-rank
overflow_add-rank c =
    let step : AddsReport c.args.self.now c.args.reports.now c.loop-agent.agent c.loop-agent.rank = adds_report _ _ _ _ c.requires c.loop-agent-test.true c.loop-agent.invariant in
    rw (c.from.ensures, c.stride.ensures.value) (omega (arith, step.small, c.stride.ensures.space.few_profiles))

pub loop-agent-preserved : goal.loop-agent-preserved
loop-agent-preserved c =
    let step : AddsReport c.args.self.now c.args.reports.now c.loop-agent.agent c.loop-agent.rank = adds_report _ _ _ _ c.requires c.loop-agent-test.true c.loop-agent.invariant in
    rw (c.from.ensures, c.stride.ensures.value) step.next

pub returns-clause-value : goal.returns-clause-value
returns-clause-value c = rank-end _ _ _ _ c.requires c.loop-agent-test.false c.loop-agent.invariant

pub returns-clause-below : goal.returns-clause-below
returns-clause-below c = rw (returns-clause-value c) (rank_of-below _ _ c.requires)

pub returns-clause-inverse : goal.returns-clause-inverse
returns-clause-inverse c = ap (profile_at c.args.self.now) (returns-clause-value c) ∙ profile_at-rank_of _ _ c.requires
