use Rattle.std.proofs.Common.{◌≡◌, sym, subst, to_z, of_z}
use mir.Syntax.{w128}
use Rattle.md_math.specs.Lists.{number_at}
use Rattle.md_math.proofs.Readings.{read, read_of}
use Rattle.md_iron_values.specs.Odds.{share_den}
use Rattle.md_threshold_laws.specs.ClosedOdds.{AreClosedOdds}
use Rattle.md_iron_pools.specs.Pooling.{pools_of}
use Rattle.md_iron_pools.proofs.InterimLaws.{closed-fits, odds-closed}
use Rattle.md_iron_pools.proofs.odds.interim.Goals as goal

pub returns-clause-closed : goal.returns-clause-closed
returns-clause-closed c =
    let a = c.args.auction.now in
    let odds = c.in_ok-odds.odds in
    let den : to_z w128 (of_z w128 c.share_of_all.result) ≡ share_den c.args.auction.now = read _ _ (read_of _ _ c.share_of_all.type_inv c.share_of_all.ensures.value) in
    record {
      den_is = den;
      one_odds = c.in_ok-odds.ensures.odds.count;
      odds =
          subst (λ d. AreClosedOdds a c.args.units (pools_of c.args.pools.now) d (number_at odds)) (sym den)
          (odds-closed a c.args.units (pools_of c.args.pools.now) odds c.kinds-shaped.ensures.shaped c.in_ok-odds.ensures.odds);
      pays_are = c.in_ok-pays.ensures;
    }

pub returns-clause-fits : goal.returns-clause-fits
returns-clause-fits c = closed-fits c.args.auction.now c.args.units (pools_of c.args.pools.now) _ c.kinds-shaped.ensures.shaped c.requires.pooling.pooled (returns-clause-closed c)
