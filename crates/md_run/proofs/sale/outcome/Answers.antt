use Rattle.std.proofs.Common.{◌≡◌, ◌∙◌, ap}
use Rattle.std.proofs.lemmas.Int.{to_z-of_z}
use mir.Syntax.{w128}
use Rattle.md_space.specs.Profiles.{rank_of}
use Rattle.md_setting.specs.Meaning.{sizes_of}
use Rattle.md_run.proofs.SaleLaws.{outcome-agent, outcome-kept}
use Rattle.md_run.proofs.sale.outcome.Goals as goal

pub returns-in-Some : goal.returns-in-Some
returns-in-Some c =
    let s = c.args.setting.now in
    let t = c.args.profile.now in
    let rank : c.rank-rank.result ≡ rank_of (sizes_of s) t = c.rank-rank.ensures.value ∙ ap (λ sizes. rank_of sizes t) c.space.ensures.sizes in
    outcome-agent s c.args.masses.now t c.rank-rank.result c.from.result c.in-Some.agent c.args.draw rank (c.from.ensures ∙ c.agents.ensures.count)
    (rw (c.in-Some.is, to_z-of_z w128 c.args.draw c.ranges.draw) at c.drawn_place.ensures)

pub returns-in-None : goal.returns-in-None
returns-in-None c =
    let s = c.args.setting.now in
    let t = c.args.profile.now in
    let rank : c.rank-rank.result ≡ rank_of (sizes_of s) t = c.rank-rank.ensures.value ∙ ap (λ sizes. rank_of sizes t) c.space.ensures.sizes in
    outcome-kept s c.args.masses.now t c.rank-rank.result c.from.result c.args.draw rank (c.from.ensures ∙ c.agents.ensures.count)
    (rw (c.in-None.is, to_z-of_z w128 c.args.draw c.ranges.draw) at c.drawn_place.ensures)
