use Rattle.std.proofs.Common.{◌≡◌, ◌∙◌, ap}
use Rattle.std.proofs.lemmas.Int.{to_z-of_z}
use mir.Syntax.{w128}
use Rattle.md_space.specs.Profiles.{rank_of}
use Rattle.md_setting.specs.Meaning.{sizes_of}
use Rattle.md_run.proofs.OutcomeLaws.{lottery-row, lottery-whole}
use Rattle.md_run.proofs.general.outcome.Goals as goal

pub unreachable-requires : goal.unreachable-requires
unreachable-requires c =
    let draw = to_z-of_z w128 c.args.draw c.ranges.draw in
    let rank : c.rank-rank.result ≡ rank_of (sizes_of c.args.setting.now) c.args.profile.now = c.rank-rank.ensures.value ∙ ap (λ sizes. rank_of sizes c.args.profile.now) c.space.ensures.sizes in
    lottery-whole c.args.setting.now c.args.mechanism.now c.args.profile.now c.rank-rank.result c.outcomes.result c.args.draw c.requires.accepted.mechanism c.requires.profile c.requires.draw.from c.requires.draw.below rank c.outcomes.ensures.count
    (rw (c.in-None.is, draw) at c.drawn_place.ensures)

pub returns : goal.returns
returns c =
    let draw = to_z-of_z w128 c.args.draw c.ranges.draw in
    let rank : c.rank-rank.result ≡ rank_of (sizes_of c.args.setting.now) c.args.profile.now = c.rank-rank.ensures.value ∙ ap (λ sizes. rank_of sizes c.args.profile.now) c.space.ensures.sizes in
    lottery-row c.args.setting.now c.args.mechanism.now c.args.profile.now c.rank-rank.result c.outcomes.result c.in-Some.outcome c.args.draw rank c.outcomes.ensures.count
    (rw (c.in-Some.is, draw) at c.drawn_place.ensures)
