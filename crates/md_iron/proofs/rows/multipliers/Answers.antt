use Rattle.std.proofs.Common.{length, ap, arith, length-append}
use Rattle.md_num.specs.declared.frac.Frac.{Frac}
use Rattle.md_iron.specs.RowMultipliers.{IsMultiplierAt}
use Rattle.md_iron.specs.Shares.{IsLeastFraction}
use Rattle.md_iron_pools.specs.Pooling.{pools_of}
use Rattle.md_iron.proofs.ShareLaws.{each-pushed}
use Rattle.md_iron.proofs.rows.multipliers.Goals as goal

pub loop-row-preserved : goal.loop-row-preserved
loop-row-preserved c =
    let kept = c.loop-row.invariant in
    let n = c.loop-row.row in
    let old = c.loop-row.fractions.items in
    let new = c.push.new.self.items in (
      omega (arith, kept.0, ap length c.in_ok-push.ensures.items, length-append {A = Frac}),
      record { at = λ k b. each-pushed (λ i f. IsLeastFraction f) n old new c.multiplier.result kept.0 c.in_ok-push.ensures.items (λ i l. kept.1.at i (omega (arith, l, kept.0))) c.multiplier.ensures.least k (omega (arith, b, kept.0, ap length c.in_ok-push.ensures.items, length-append {A = Frac})) },
      record { at = λ k b. each-pushed (IsMultiplierAt c.args.auction.now c.args.units (pools_of c.args.pools.now) c.args.lp.now) n old new c.multiplier.result kept.0 c.in_ok-push.ensures.items kept.2.at c.multiplier.ensures.multiplier k b },
    )
