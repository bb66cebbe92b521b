use Rattle.md_threshold.proofs.ThresholdLaws.{is-threshold}
use Rattle.md_threshold.proofs.finding.threshold_units.Goals as goal

pub returns : goal.returns
returns c =
    is-threshold c.args.auction.now c.args.units c.in_ok-pools.pools c.in_ok-interim.interim c.value.result c.expected.result c.expected-2.result c.kinds-shaped.ensures.shaped c.in_ok-pools.ensures.pooled c.in_ok-pools.ensures.named
    c.in_ok-interim.ensures.closed c.value.ensures c.expected.ensures c.expected-2.ensures
