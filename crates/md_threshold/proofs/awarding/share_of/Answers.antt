use Rattle.std.proofs.Common.{◌≡◌, ◌<◌, length, sym, ◌∙◌, subst, arith}
use Rattle.std.specs.Prelude.{slice_index}
use Rattle.md_math.proofs.Readings.{read, read_of}
use Rattle.md_iron_pools.specs.Pooling.{pools_of}
use Rattle.md_threshold_laws.specs.Rule.{chance}
use Rattle.md_threshold.proofs.ShareLaws.{profile-long, are-kinds, own-chance, chance-is}
use Rattle.md_threshold.proofs.awarding.share_of.Goals as goal

pub bounds-profile-place : goal.bounds-profile-place
bounds-profile-place c = omega (arith, c.requires.bidder, profile-long c.args.auction.now c.args.profile.now c.requires.profile)

pub chance_with-chance-requires-clause-kinds : goal.chance_with-chance-requires-clause-kinds
chance_with-chance-requires-clause-kinds c = are-kinds c.args.auction.now c.args.pools.now c.args.profile.now c.kinds-shaped.ensures.shaped c.requires.pooling c.requires.profile

pub chance_with-chance-requires-clause-kind : goal.chance_with-chance-requires-clause-kind
chance_with-chance-requires-clause-kind c =
    let kinds = are-kinds c.args.auction.now c.args.pools.now c.args.profile.now c.kinds-shaped.ensures.shaped c.requires.pooling c.requires.profile in
    subst (λ n. n < length c.args.pools.now.by_kind.items) (sym c.from.ensures) (kinds.below c.args.bidder (omega (arith, c.requires.bidder, profile-long c.args.auction.now c.args.profile.now c.requires.profile)))

pub price_of-requires-clause-bidder : goal.price_of-requires-clause-bidder
price_of-requires-clause-bidder c = omega (arith, c.requires.bidder, profile-long c.args.auction.now c.args.profile.now c.requires.profile)

pub wins_at-requires-clause-kinds : goal.wins_at-requires-clause-kinds
wins_at-requires-clause-kinds c = are-kinds c.args.auction.now c.args.pools.now c.args.profile.now c.kinds-shaped.ensures.shaped c.requires.pooling c.requires.profile

pub wins_at-requires-clause-bidder : goal.wins_at-requires-clause-bidder
wins_at-requires-clause-bidder c = omega (arith, c.requires.bidder, profile-long c.args.auction.now c.args.profile.now c.requires.profile)

pub returns : goal.returns
returns c =
    let a = c.args.auction.now in
    let pools = pools_of c.args.pools.now in
    let t = c.args.profile.now in
    let own : c.chance_with-chance.result ≡ chance c.args.units pools t (slice_index t c.args.bidder) = c.chance_with-chance.ensures.value ∙ own-chance c.args.units pools t c.args.bidder _ c.from.ensures in
    let ratio = rw (read _ _ (read_of _ _ c.from-2.type_inv c.from-2.ensures), read _ _ (read_of _ _ c.from-3.type_inv c.from-3.ensures)) at c.reduced.ensures.value in
    record {
      chance = chance-is a c.args.units pools t c.args.bidder c.kinds-shaped.ensures.shaped c.requires.pooling.pooled c.requires.profile c.requires.bidder c.reduced.result c.chance_with-chance.result c.draw_count.result own c.draw_count.ensures.value ratio;
      least = c.reduced.ensures.least;
      price = c.price_of.ensures;
      wins = c.wins_at.ensures;
    }
