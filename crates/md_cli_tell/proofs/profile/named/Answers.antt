use Rattle.std.proofs.Common.{◌≡◌, ◌<◌, refl, subst, ◌∙◌, map, length, arith}
use Rattle.md_cli_tell.specs.Drawing.{IsNoName, sizes_in}
use Rattle.md_cli_tell.proofs.Profiles.{all-named, no-name}
use Rattle.md_cli_tell.proofs.profile.named.Goals as goal

pub returns-in-None : goal.returns-in-None
returns-in-None c =
    let below : c.loop-agent.agent < length (sizes_in c.args.file.now) = omega (arith, c.loop-agent-test.true, c.agents-agent-end.ensures) in
    no-name c.args.file.now (map (λ part. part.now) c.args.parts.now) c.loop-agent.agent below
    (subst (IsNoName c.args.file.now c.loop-agent.agent) c.part_at.ensures c.in-None.ensures)

pub returns : goal.returns
returns c =
    let end : c.loop-agent.agent ≡ length (sizes_in c.args.file.now) =
    omega (arith, c.loop-agent-test.false, c.loop-agent.auto.agent-end, c.agents-agent-end.ensures) in
    all-named c.args.file.now (map (λ part. part.now) c.args.parts.now) c.loop-agent.agent c.loop-agent.reports.items c.loop-agent.invariant end
    (c.if-not-has_length.ensures.0 refl ∙ c.agents.ensures)
