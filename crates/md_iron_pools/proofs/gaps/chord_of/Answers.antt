use Rattle.std.proofs.Common.{◌≡◌, pos, ◌-ℤ◌, ◌<ℤ◌, sym, ap, ◌∙◌, subst, arith}
use Rattle.std.proofs.lemmas.List.{get_or_read}
use Rattle.md_math.proofs.Readings.{read, read_of}
use Rattle.md_iron_values.specs.VirtualValues.{weight_to}
use Rattle.md_iron_pools.specs.Pooling.{pools_of, pool_at}
use Rattle.md_iron_pools.proofs.Bounds.{pool-heavy}
use Rattle.md_iron_pools.proofs.gaps.chord_of.Goals as goal

pub returns-clause-positive : goal.returns-clause-positive
returns-clause-positive c =
    let a = c.args.auction.now in
    let is : c.index-pool.result.now ≡ pool_at c.args.pools.now c.args.kind =
    get_or_read c.args.pools.now.by_kind.items c.args.kind c.index-pool.result.now (omega (arith, c.requires.kind, c.requires.pooling.one_each)) c.index-pool.ensures (record { first = 0; stop = 0 }) in
    subst (λ z. pos 0 <ℤ z)
    (sym (read _ _ (read_of _ _ c.weight_between.type_inv c.weight_between.ensures.value) ∙ ap (λ p. weight_to a p.stop -ℤ weight_to a p.first) is))
    (pool-heavy a (pools_of c.args.pools.now) c.args.kind c.weight_between.ensures.shaped c.requires.pooling.pooled c.requires.kind)
