use Rattle.std.proofs.Common.{◌<◌, ◌∙◌, subst}
use Rattle.std.proofs.lemmas.Int.{to_z-of_z}
use mir.Syntax.{w128}
use Rattle.md_iron_pools.specs.Pooling.{pools_of}
use Rattle.md_threshold_laws.specs.Rule.{draws_at}
use Rattle.md_threshold.proofs.ShareLaws.{are-kinds, awarded}
use Rattle.md_threshold.proofs.awarding.award_units.Goals as goal

pub draws_at-draws-requires : goal.draws_at-draws-requires
draws_at-draws-requires c = record { kinds = are-kinds c.args.auction.now c.in-Ok.pools c.args.profile.now c.kinds-shaped.ensures.shaped c.in-Ok.ensures.pooled c.requires.profile }

pub returns-clause-awarded : goal.returns-clause-awarded
returns-clause-awarded c =
    let pools = pools_of c.in-Ok.pools in
    let below : c.in-Some.draw < draws_at c.args.units pools c.args.profile.now = subst (λ n. c.in-Some.draw < n) c.draws_at-draws.ensures.value c.in-Some.ensures.1 in
    awarded c.args.auction.now c.args.units pools c.args.profile.now c.args.draw c.in-Some.draw _ c.kinds-shaped.ensures.shaped c.in-Ok.ensures.named c.requires.profile (c.in-Some.ensures.0 ∙ to_z-of_z w128 c.args.draw c.ranges.draw) below c.in-Ok-shares.ensures
