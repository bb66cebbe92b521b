use Rattle.std.proofs.Common.{[], ◌∷◌, if◌then◌else◌}
use Rattle.md_parts.proofs.MadeRows.{joined-more}
use Rattle.md_iron_values.specs.Cuts.{begins}
use Rattle.md_iron_pools.specs.Pooling.{pools_of}
use Rattle.md_cli_sell.specs.ThresholdTexts.{pool_row}
use Rattle.md_cli_sell.proofs.threshold_text.push_pools.Goals as goal

pub loop-kind-preserved : goal.loop-kind-preserved
loop-kind-preserved c =
    let pools = pools_of c.args.pools.now in
    joined-more (λ v. if begins pools v then pool_row c.args.auction.now pools v ∷ [] else []) c.args.rows.now.items c.loop-kind.rows.items c.push_if_pool.new.rows.items c.loop-kind.kind c.loop-kind.invariant c.in_ok-push_if_pool.ensures
