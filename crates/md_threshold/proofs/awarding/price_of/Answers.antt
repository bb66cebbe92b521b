use Rattle.std.proofs.Common.{◌<◌, sym, ◌∙◌, arith}
use Rattle.md_math.proofs.Bits.{read_result}
use Rattle.md_math.proofs.Readings.{read, read_of}
use Rattle.md_iron_pools.specs.Pooling.{pools_of}
use Rattle.md_threshold.proofs.ShareLaws.{profile-long, are-kinds, loser, winner}
use Rattle.md_threshold.proofs.awarding.price_of.Goals as goal

pub returns-then-often-eq0 : goal.returns-then-often-eq0
returns-then-often-eq0 c =
    let a = c.args.auction.now in
    let inside : c.args.bidder < a.bidders = omega (arith, c.requires.bidder, profile-long a c.args.profile.now c.requires.profile) in
    loser a c.args.units (pools_of c.args.pools.now) c.args.profile.now c.args.bidder c.kinds-shaped.ensures.shaped c.requires.pooling.pooled c.requires.profile inside (sym c.requires.often ∙ c.if-often-eq0.true)

pub payment-paid-requires-clause-kinds : goal.payment-paid-requires-clause-kinds
payment-paid-requires-clause-kinds c = are-kinds c.args.auction.now c.args.pools.now c.args.profile.now c.kinds-shaped.ensures.shaped c.requires.pooling c.requires.profile

pub returns : goal.returns
returns c =
    let a = c.args.auction.now in
    let inside : c.args.bidder < a.bidders = omega (arith, c.requires.bidder, profile-long a c.args.profile.now c.requires.profile) in
    let ratio = rw (read_result c.payment-paid.result c.payment-paid.type_inv, read _ _ (read_of _ _ c.from.type_inv c.from.ensures)) at c.reduced.ensures.value in
    winner a c.args.units (pools_of c.args.pools.now) c.args.profile.now c.args.bidder c.kinds-shaped.ensures.shaped c.requires.pooling.pooled c.requires.profile inside c.reduced.result c.args.often c.payment-paid.result c.requires.often
    (omega (arith, c.if-often-eq0.false)) c.payment-paid.ensures.value ratio c.reduced.ensures.least
